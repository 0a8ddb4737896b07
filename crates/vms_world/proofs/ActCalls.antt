-- For other crates too: the call on the percpu counters that an act makes.
use Rattle.std.proofs.Common.{◌≡◌, ℕ, ◌<◌, ◌^◌, length, [], Option, Some, None, refl, sym, ap, subst, ◌∙◌}
use Rattle.vms_calls.specs.Common.{Header, CpuId, PcpuId, ZoneSize, State, History}
use Rattle.vms_event_core.specs.declared.steps.EventFacts.{EventFacts}
use Rattle.vms_line.specs.Common.{IsActOf}
use Rattle.vms_pcpu_core.specs.declared.pcpu_calls.PcpuCall.{PcpuCall}
use Rattle.vms_pcpu_core.specs.declared.steps.PcpuFacts.{PcpuFacts}
use Rattle.vms_pcpu_core.specs.Common.{IsOwnersCall, IsWithin, NamesKnown, pcpu_spent, spent_by_call, counters_of}
use Rattle.vms_script.specs.Common.{spent_on_pcpu}
use Rattle.vms_text.specs.declared.acts.Act.{Act}
use Rattle.vms_text.specs.declared.acts.Act.TheVariants.{Mod, Inc, Dec, Ev, Cnt, Lim, Cmp, Sum, Rough, Csync, EvSum}
use Rattle.vms_text.specs.declared.acts.Act.TheVariants.{Fold, Water, Val, Snap, Sys}
use Rattle.vms_text.specs.declared.acts.Lane.TheVariants.{Cpu}
use Rattle.vms_world.specs.Common.{page_call, EventSteps, PageSteps, pcpu_call}
use Rattle.vms_world.proofs.EventActs.{no_call-no_pages}

-- an act spends what its call may add
pub spent-call : (c : CpuId) (a : Act) (j : ℕ) → spent_on_pcpu j a ≡ spent_by_call (pcpu_call (Cpu c) a) j
spent-call c (Cnt i amount) j = refl
spent-call c (Lim i limit amount) j = refl
spent-call c _ j = refl

pub spent-by_call : (c : CpuId) (call : PcpuCall) (a : Act) → pcpu_call (Cpu c) a ≡ Some call → (j : ℕ)
    → spent_on_pcpu j a ≡ pcpu_spent call j
spent-by_call c call a is j = spent-call c a j ∙ ap (λ (made : Option PcpuCall). spent_by_call made j) is

-- an act that makes one makes no step in the other tables
pub call-no_page_call : (c : CpuId) (call : PcpuCall) (a : Act) → pcpu_call (Cpu c) a ≡ Some call
    → page_call (Cpu c) a ≡ None
call-no_page_call c call (Mod k delta) is = absurd cc
call-no_page_call c call (Inc k) is = absurd cc
call-no_page_call c call (Dec k) is = absurd cc
call-no_page_call c call (Fold d) is = absurd cc
call-no_page_call c call (Water g mark most) is = absurd cc
call-no_page_call c call (Val k) is = absurd cc
call-no_page_call c call (Snap k) is = absurd cc
call-no_page_call c call (Sys i) is = absurd cc
call-no_page_call c call _ is = refl

pub call-no_pages : (header : Header) (base : State) (pressure normal : ZoneSize → ℕ → ℕ → Type 0) (c : CpuId) (p : ℕ)
    (h : History) (call : PcpuCall) (a : Act) → pcpu_call (Cpu c) a ≡ Some call
    → PageSteps header base pressure normal (Cpu c) p a h []
call-no_pages header base pressure normal c p h call a is =
    no_call-no_pages header base pressure normal (Cpu c) p a h (call-no_page_call c call a is)

pub call-no_events : (facts : EventFacts) (c : CpuId) (call : PcpuCall) (a : Act) → pcpu_call (Cpu c) a ≡ Some call
    → EventSteps facts (Cpu c) a []
call-no_events facts c call (Ev k n) is = absurd cc
call-no_events facts c call (EvSum k) is = absurd cc
call-no_events facts c call _ is = refl

-- what is known of the call of a line of the header: it names a counter of the table, and numbers in range
pub record IsKnownCall (facts : PcpuFacts) (call : PcpuCall) : Type 0 where
  pub known : NamesKnown facts call
  pub within : IsWithin (2 ^ 60) call
  pub owners : IsOwnersCall call

-- the same of what may be no call
abbrev IsKnown : PcpuFacts → Option PcpuCall → Type 0
IsKnown facts (Some call) = IsKnownCall facts call
IsKnown facts None = Unit {0}

pub known-call : (header : Header) (facts : PcpuFacts) → counters_of facts.base ≡ length header.counters → (c : CpuId)
    (a : Act) → IsActOf header (Cpu c) a → (call : PcpuCall) → pcpu_call (Cpu c) a ≡ Some call
    → IsKnownCall facts call
known-call header facts declared c a of call is =
    subst (IsKnown facts) is (by a of)
  where
    inside : (j : PcpuId) → j.number < length header.counters → j.number < counters_of facts.base
    inside j within = subst (λ (n : ℕ). j.number < n) (sym declared) within

    by : (b : Act) → IsActOf header (Cpu c) b → IsKnown facts (pcpu_call (Cpu c) b)
    by (Cnt j amount) known = record { known = inside j known.1; within = tt; owners = tt }
    by (Lim j limit amount) known = record { known = inside j known.1; within = known.2; owners = tt }
    by (Cmp j rhs) known = record { known = inside j known.1; within = known.2; owners = tt }
    by (Sum j) known = record { known = inside j known.1; within = tt; owners = tt }
    by (Rough j) known = record { known = inside j known.1; within = tt; owners = tt }
    by (Csync j) known = record { known = inside j known.1; within = tt; owners = tt }
    by _ known = tt
