-- Each act concerns one table: which steps it makes in the others, and what it spends there.
use Rattle.std.proofs.Common.{◌≡◌, ℕ, ℤ, [], Option, Some, None, refl, sym, ap, subst, ◌∙◌}
use Rattle.vms_world.specs.Common.{Header, CounterId, CpuId, ItemId, PlaceId, WaterMark, EventCall, EventFacts}
use Rattle.vms_world.specs.Common.{IsEventCall, event_spent, PcpuCall, PcpuFacts, MakesPcpuCall, spent_on_counter}
use Rattle.vms_world.specs.Common.{spent_on_event, spent_on_pcpu, Act, Lane, Cpu, CallSteps, EventSteps, PcpuSteps}
use Rattle.vms_world.specs.Common.{event_call, pcpu_call, Mode}
use Rattle.vms_calls.specs.PageCalls.{page_spent}
use Rattle.vms_calls.specs.declared.page_calls.PageCall.{PageCall}
use Rattle.vms_calls.specs.declared.page_calls.PageCall.TheVariants.{Change, Fold, Test, Value, Snapshot, System}
use Rattle.vms_calls.specs.declared.page_calls.PageCall.TheVariants.{SetPressure, SetNormal, Turn}
use Rattle.vms_pcpu_core.specs.PcpuCalls.{spent_by_call as spent_on_counters}
use Rattle.vms_text.specs.declared.acts.Act.TheVariants.{Mod, Inc, Dec, Dead}
use Rattle.vms_world.specs.Acts.{spent_by_call}
use Rattle.vms_world.proofs.Common.{spent-call, spent_on_event-call}
use Rattle.vms_lane.specs.Common.{IsCallOfControl, IsCallOfCpu, IsFoldOrLook}

-- an act that makes a call on events makes none on percpu counters
pub events-no_call : (c : CpuId) (a : Act) (call : EventCall) → event_call (Cpu c) a ≡ Some call
    → pcpu_call (Cpu c) a ≡ None
events-no_call c (Dead d) call on = refl
events-no_call c _ call on = cc

-- no step in a table that an act doesn't concern
pub no_events-steps : (facts : EventFacts) (lane : Lane) (a : Act) → event_call lane a ≡ None
    → EventSteps facts lane a []
no_events-steps facts lane a off =
    subst (λ (makes : Option EventCall). CallSteps (IsEventCall facts) makes []) (sym off) refl

pub no_call-steps : (facts : PcpuFacts) (c : CpuId) (a : Act) → pcpu_call (Cpu c) a ≡ None
    → PcpuSteps facts (Cpu c) a []
no_call-steps facts c a none =
    subst (λ (call : Option PcpuCall). MakesPcpuCall facts (Some c) call []) (sym none) refl

-- and nothing is spent there
pub events-unspent : (c : CpuId) (a : Act) (call : EventCall) → event_call (Cpu c) a ≡ Some call → (k : ℕ)
    → spent_on_counter k a ≡ 0
events-unspent c (Dead d) call on k = refl
events-unspent c _ call on k = cc

pub call-unspent : (c : CpuId) (call : PcpuCall) (a : Act) → pcpu_call (Cpu c) a ≡ Some call → (k : ℕ)
    → spent_on_counter k a ≡ 0
call-unspent c call (Mod l pages) is k = absurd cc
call-unspent c call (Inc l) is k = absurd cc
call-unspent c call (Dec l) is k = absurd cc
call-unspent c call _ is k = refl

pub looks-unspent : (header : Header) (call : PageCall) → IsFoldOrLook header call → (k : ℕ) → page_spent call k ≡ 0
looks-unspent header (Change l delta how) is k = absurd is
looks-unspent header _ is k = refl

pub no_events-unspent : (c : CpuId) (a : Act) → event_call (Cpu c) a ≡ None → (e : ℕ) → spent_on_event e a ≡ 0
no_events-unspent c a off e =
    spent_on_event-call c e a ∙ ap (λ (makes : Option EventCall). spent_by_call event_spent makes e) off

pub no_call-unspent : (c : CpuId) (a : Act) → pcpu_call (Cpu c) a ≡ None → (j : ℕ) → spent_on_pcpu j a ≡ 0
no_call-unspent c a none j = spent-call c a j ∙ ap (λ (call : Option PcpuCall). spent_on_counters call j) none

-- what is left of the calls, once some are told apart
pub own-looks : (header : Header) (call : PageCall) → IsCallOfCpu header call
    → ((k : CounterId) (delta : ℤ) (how : Mode) → call ≡ Change k delta how → ⊥) → IsFoldOrLook header call
own-looks header (Change k delta how) is no_change = absurd (no_change k delta how refl)
own-looks header _ is no_change = is

pub control-looks : (header : Header) (call : PageCall) → IsCallOfControl header call
    → ((n : PlaceId) → call ≡ SetPressure n → ⊥) → ((n : PlaceId) → call ≡ SetNormal n → ⊥)
    → ((n : PlaceId) (order most : ℕ) → call ≡ Turn n order most → ⊥) → IsFoldOrLook header call
control-looks header (SetPressure n) is no_pressure no_normal no_turn = absurd (no_pressure n refl)
control-looks header (SetNormal n) is no_pressure no_normal no_turn = absurd (no_normal n refl)
control-looks header (Turn n order most) is no_pressure no_normal no_turn = absurd (no_turn n order most refl)
control-looks header _ is no_pressure no_normal no_turn = is

pub looks-none : (header : Header) (call : PageCall) → IsFoldOrLook header call → ((c : CpuId) → call ≡ Fold c → ⊥)
    → ((g : PlaceId) (mark : WaterMark) (most : ℕ) → call ≡ Test g mark most → ⊥)
    → ((k : CounterId) → call ≡ Value k → ⊥) → ((k : CounterId) → call ≡ Snapshot k → ⊥)
    → ((i : ItemId) → call ≡ System i → ⊥) → ⊥
looks-none header (Fold c) is no_fold no_test no_value no_snapshot no_system = no_fold c refl
looks-none header (Test g mark most) is no_fold no_test no_value no_snapshot no_system = no_test g mark most refl
looks-none header (Value k) is no_fold no_test no_value no_snapshot no_system = no_value k refl
looks-none header (Snapshot k) is no_fold no_test no_value no_snapshot no_system = no_snapshot k refl
looks-none header (System i) is no_fold no_test no_value no_snapshot no_system = no_system i refl
looks-none header _ is no_fold no_test no_value no_snapshot no_system = is
