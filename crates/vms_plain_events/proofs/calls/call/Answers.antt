-- The sum is over the CPUs that are online by the facts.
use Rattle.std.proofs.Common.{List, ℕ, subst, sym}
use Rattle.vms_history.specs.Common.{LeadsOn, CpuState, online_from}
use Rattle.vms_event_core.specs.declared.call_values.EventAnswer.TheVariants.{Total}
use Rattle.vms_event_core.specs.declared.call_values.EventCall.{EventCall}
use Rattle.vms_event_core.specs.declared.steps.EventStep.{EventStep}
use Rattle.vms_event_core.specs.Common.{IsAllEvents, IsEventCall}
use Rattle.vms_plain_events.specs.Common.{events_by_state}
use Rattle.vms_plain_events.proofs.calls.call.Goals as goal

pub returns-in-Sum-clause-made : goal.returns-in-Sum-clause-made
returns-in-Sum-clause-made c facts same =
    let made = c.all_events.ensures.made c.args.owner in
    let sums = subst (λ (cs : List CpuState). IsAllEvents (online_from 0 cs) c.in-Sum.event made.0 made.1
    c.all_events.result) (sym same) made.2 in
    subst (λ (call : EventCall). (steps : List EventStep)
    × IsEventCall facts call steps (Total c.all_events.result)
    × LeadsOn events_by_state c.args.owner steps c.args.events.now c.args.events.now) (sym c.in-Sum.is)
    (made.1, (made.0, sums), made.3)
