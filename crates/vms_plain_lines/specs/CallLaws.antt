-- The laws of calls by which lines go on.
use Rattle.std.specs.Prelude.{◌≡◌, ℕ, List, ◌++◌}
use Rattle.vms_world.specs.Common.{EventAnswer, EventCall, EventFacts, EventStep, CarryAsBefore, IsEventCall}
use Rattle.vms_world.specs.Common.{read_event_call}
use Rattle.vms_event_core.specs.CallLaws.{MayCall, MayMake}
use Rattle.vms_event_core.specs.Events.{History}

-- the calls on event counters may be made, leave what their caller carries, and tell their answers
pub record EventLaws : Type 0 where
  pub may : (facts : EventFacts) (h : History) (p : ℕ) (call : EventCall) (steps : List EventStep)
      (answer : EventAnswer) → MayCall facts h p call → IsEventCall facts call steps answer → MayMake facts p h steps
  pub carry : (facts : EventFacts) (call : EventCall) (steps : List EventStep) (answer : EventAnswer)
      → IsEventCall facts call steps answer → CarryAsBefore steps
  pub tell : (facts : EventFacts) (call : EventCall) (steps rest : List EventStep) (answer : EventAnswer)
      → IsEventCall facts call steps answer → read_event_call facts call (steps ++ rest) ≡ (answer, rest)
