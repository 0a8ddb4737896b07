-- Each call may be made.
use Rattle.vms_event_core.proofs.FittingSteps.{call-may}
use Rattle.vms_event_core.proofs.calls.calls_may_be_made.Goals as goal

pub returns : goal.returns
returns c = call-may
