-- The steps of each call.
use Rattle.vms_group_core.proofs.FittingSteps.{call-may}
use Rattle.vms_group_core.proofs.calls.calls_may_be_made.Goals as goal

pub returns : goal.returns
returns c = call-may
