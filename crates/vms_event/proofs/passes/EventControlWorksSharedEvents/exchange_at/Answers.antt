-- The goals were that the step may be made, and that the control pass still carries nothing.
use Rattle.std.proofs.Common.{◌==◌, if◌then◌else◌, sym, subst}
use Rattle.vms_event_core.specs.declared.steps.EventFacts.{EventFacts}
use Rattle.vms_event_core.specs.declared.steps.EventStep.{EventStep}
use Rattle.vms_event_core.specs.Common.{events}
use Rattle.vms_event.specs.SharedWords.{shown}
use Rattle.vms_event.specs.Common.{told}
use Rattle.vms_seats.specs.Common.{Pass, MayStep}
use Rattle.vms_event.proofs.KeptControl.{control-left}
use Rattle.vms_event.proofs.passes.EventControlWorksSharedEvents.exchange_at.Goals as goal

pub exchange_at-requires-clause-step : goal.exchange_at-requires-clause-step
exchange_at-requires-clause-step c = subst
    (λ (p : Pass EventFacts EventStep). MayStep events shown p c.args.place
    (λ n. if n == c.args.old then c.args.new else n) (told c.args.plan.now))
    (sym c.self.view_is) c.requires.step

pub invariant_of-self : goal.invariant_of-self
invariant_of-self c = control-left c.exchange_at.new.self c.self.inside.worker
    (told c.args.plan.now c.exchange_at.result)
    c.self.invariant (c.requires.leaves c.exchange_at.result) c.exchange_at.ensures
