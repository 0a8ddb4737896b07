-- What the answer of each call on the event counters tells.
use Rattle.std.proofs.Common.{ℕ, List, ◌++◌}
use Rattle.vms_base.specs.declared.ids.EventId.{EventId}
use Rattle.vms_event_core.specs.declared.call_values.EventAnswer.TheVariants as answer
use Rattle.vms_event_core.specs.declared.call_values.EventCall.TheVariants as call
use Rattle.vms_event_core.specs.CallLaws.{HasMade, SumsBetween}
use Rattle.vms_event_core.specs.Events.{History, IsLegal}
use Rattle.vms_event_core.specs.Calls.{IsAllEvents}
use Rattle.vms_event_core.specs.Laws.{KeepsLaws}
use Rattle.vms_truth.specs.EventTruth.{EventCallsAnswerTruly}
use Rattle.vms_truth.proofs.EventMoments.{sum-true}
use Rattle.vms_world.specs.Common.{EventFacts, EventStep, IsEvent, online_cpus}

module _ (laws-kept : (facts : EventFacts) (more h : History) → IsLegal facts (more ++ h) → KeepsLaws facts h)
    (between : (facts : EventFacts) (later earlier : History) (p : ℕ) (k : EventId) (found : List ℕ)
    (steps : List EventStep) (answer : ℕ) → HasMade facts later earlier p steps → IsEvent k.number
    → IsAllEvents (online_cpus facts) k found steps answer → SumsBetween facts later earlier k found answer) where
  pub event-answers_are_true : EventCallsAnswerTruly
  event-answers_are_true facts (call.Sum k) p later earlier steps (answer.Total sum) (found, is) legal since made =
      sum-true laws-kept between facts later earlier p k steps sum legal since made found is
  event-answers_are_true facts (call.Count k n) p later earlier steps answer.Done is legal since made = tt
  event-answers_are_true facts (call.FoldDead dead) p later earlier steps answer.Done is legal since made = tt
  event-answers_are_true facts _ p later earlier steps _ is legal since made = absurd is
