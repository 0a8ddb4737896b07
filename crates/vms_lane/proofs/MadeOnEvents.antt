-- An act that makes a call on the event counters, by the steps of its call.
use Rattle.std.proofs.Common.{◌≡◌, ◌≢◌, List, Option, Some, sym, subst}
use Rattle.vms_world.specs.Common.{Header, CpuId, EventAnswer, EventCall, EventFacts, EventStep, IsEventCall, events}
use Rattle.vms_world.specs.Common.{Act, Lane, CallSteps, event_call, event_facts}
use Rattle.vms_seats.specs.Common.{Pass, Made}
use Rattle.vms_text.specs.declared.acts.Act.TheVariants.{Dead}
use Rattle.vms_world.specs.declared.worlds.World.{World}
use Rattle.vms_answers.specs.Common.{Tell, event_told, on_events}
use Rattle.vms_lane.specs.Common.{MakesOnEvents}

-- the steps of such a call tell what the act answers
abbrev pub EventCallsTell : Type 0
EventCallsTell = (header : Header) (w : World) (lane : Lane) (act : Act) (call : EventCall) (steps : List EventStep)
    (answer : EventAnswer) → event_call lane act ≡ Some call → ((c : CpuId) → act ≢ Dead c)
    → IsEventCall (event_facts header w) call steps answer
    → Tell header w lane act (on_events steps) (event_told answer)

pub call-made : EventCallsTell → (header : Header) (facts : EventFacts) (lane : Lane) (act : Act) (call : EventCall)
    (answer : EventAnswer) (new old : Pass EventFacts EventStep) → event_call lane act ≡ Some call
    → ((c : CpuId) → act ≢ Dead c)
    → (steps : List EventStep) × IsEventCall facts call steps answer × Made events new old steps
    → MakesOnEvents header facts lane act new old (event_told answer)
call-made tell header facts lane act call answer new old is no_burial (steps, call_is, made) = record {
  steps = steps;
  is_act = subst (λ (makes : Option EventCall). CallSteps (IsEventCall facts) makes steps) (sym is) (answer, call_is);
  made = made;
  tells = λ w same. tell header w lane act call steps answer is no_burial
      (subst (λ (f : EventFacts). IsEventCall f call steps answer) same call_is);
}
