-- Which steps the act of a line makes in each table.
use Rattle.std.specs.Prelude.{◌≡◌, ℕ, Bool, pos, negsuc, List, [], Option, Some, None}
use Rattle.vms_calls.specs.Common.{Header, CpuId, Mod as Modify, Inc as Raise, Dec as Lower, ZoneSize, State, Step}
use Rattle.vms_calls.specs.PageCalls.{IsPageCall, owns_cpu}
use Rattle.vms_calls.specs.declared.page_calls.PageCall.{PageCall}
use Rattle.vms_calls.specs.declared.page_calls.PageCall.TheVariants as on_pages
use Rattle.vms_core.specs.Pages as pages
use Rattle.vms_event_core.specs.declared.call_values.EventCall.{EventCall}
use Rattle.vms_event_core.specs.declared.call_values.EventCall.TheVariants.{Count, Sum as SumEvent}
use Rattle.vms_event_core.specs.declared.call_values.EventCall.TheVariants.{FoldDead as FoldEvents}
use Rattle.vms_event_core.specs.declared.steps.EventFacts.{EventFacts}
use Rattle.vms_event_core.specs.declared.steps.EventStep.{EventStep}
use Rattle.vms_event_core.specs.Common.{IsEventCall}
use Rattle.vms_pcpu_core.specs.declared.pcpu_calls.PcpuCall.{PcpuCall}
use Rattle.vms_pcpu_core.specs.declared.pcpu_calls.PcpuCall.TheVariants as call
use Rattle.vms_pcpu_core.specs.declared.steps.PcpuFacts.{PcpuFacts}
use Rattle.vms_pcpu_core.specs.declared.steps.PcpuStep.{PcpuStep}
use Rattle.vms_pcpu_core.specs.Common.{MakesPcpuCall}
use Rattle.vms_text.specs.declared.acts.Act.{Act}
use Rattle.vms_text.specs.declared.acts.Act.TheVariants.{Mod, Inc, Dec, Ev, Cnt, Lim, Cmp, Sum, Rough, Csync, EvSum}
use Rattle.vms_text.specs.declared.acts.Act.TheVariants.{Fold, Water, Val, Snap, Sys, Pressure, Normal, Dead, Kswapd}
use Rattle.vms_text.specs.declared.acts.Lane.{Lane}
use Rattle.vms_text.specs.declared.acts.Lane.TheVariants.{Cpu, Control}
use Rattle.vms_world.specs.Lanes.{owner_of}

-- steps of the call that an act makes on a table, whatever it answers; an act that makes none there makes no step
abbrev pub CallSteps : {C A K : Type 0} → (C → List K → A → Type 0) → Option C → List K → Type 0
CallSteps IsCall None steps = steps ≡ []
CallSteps {A = A} IsCall (Some call) steps = (answer : A) × IsCall call steps answer

-- whether a lane's pass owns a CPU
abbrev pub lane_owns : Lane → CpuId → Bool
lane_owns lane c = owns_cpu (owner_of lane) c

-- the call that an act makes on the page counters, if it makes one
abbrev pub page_call : Lane → Act → Option PageCall
page_call lane (Fold c) = Some (on_pages.Fold c)
page_call lane (Water g mark most) = Some (on_pages.Test g mark most)
page_call lane (Val k) = Some (on_pages.Value k)
page_call lane (Snap k) = Some (on_pages.Snapshot k)
page_call lane (Sys i) = Some (on_pages.System i)
page_call (Cpu c) (Mod k delta) = Some (on_pages.Change k delta Modify)
page_call (Cpu c) (Inc k) = Some (on_pages.Change k (pos 1) Raise)
page_call (Cpu c) (Dec k) = Some (on_pages.Change k (negsuc 0) Lower)
page_call Control (Pressure n) = Some (on_pages.SetPressure n)
page_call Control (Normal n) = Some (on_pages.SetNormal n)
page_call Control (Dead c) = Some (on_pages.Bury c)
page_call Control (Kswapd n order most) = Some (on_pages.Turn n order most)
page_call _ _ = None

-- on the page counters of a phase from this state, by caller p, where the act begins in history h
abbrev pub PageSteps : Header → State → (pressure normal : ZoneSize → ℕ → ℕ → Type 0) → Lane → ℕ → Act → pages.History
    → List Step → Type 0
PageSteps header base pressure normal lane p act h steps =
    CallSteps (λ call ks told. IsPageCall header base pressure normal call (owner_of lane) p h ks told)
    (page_call lane act) steps

-- the call that an act makes on the event counters, if it makes one
abbrev pub event_call : Lane → Act → Option EventCall
event_call (Cpu c) (Ev k n) = Some (Count k n)
event_call lane (EvSum k) = Some (SumEvent k)
event_call Control (Dead c) = Some (FoldEvents c)
event_call _ _ = None

-- what the call of an act spends on a thing of a table
abbrev pub spent_by_call : {C : Type 0} → (C → ℕ → ℕ) → Option C → ℕ → ℕ
spent_by_call spent None k = 0
spent_by_call spent (Some call) k = spent call k

-- on the event counters
abbrev pub EventSteps : EventFacts → Lane → Act → List EventStep → Type 0
EventSteps facts lane act steps = CallSteps (IsEventCall facts) (event_call lane act) steps

-- the call that an act makes on the percpu counters, if it makes one
abbrev pub pcpu_call : Lane → Act → Option PcpuCall
pcpu_call (Cpu c) (Cnt j amount) = Some (call.Add j amount)
pcpu_call (Cpu c) (Lim j limit amount) = Some (call.LimitedAdd j limit amount)
pcpu_call (Cpu c) (Cmp j rhs) = Some (call.Compare j rhs)
pcpu_call (Cpu c) (Sum j) = Some (call.Sum j)
pcpu_call (Cpu c) (Rough j) = Some (call.Read j)
pcpu_call (Cpu c) (Csync j) = Some (call.Sync j)
pcpu_call Control (Dead c) = Some (call.FoldDead c)
pcpu_call _ _ = None

-- on the percpu counters
abbrev pub PcpuSteps : PcpuFacts → Lane → Act → List PcpuStep → Type 0
PcpuSteps facts lane act steps = MakesPcpuCall facts (owner_of lane) (pcpu_call lane act) steps
