use Rattle.vms_pcpu_core.proofs.OwnSteps.{LeavesIdle-holds}
use Rattle.vms_pcpu_core.proofs.callers.calls_leave_callers_idle.Goals as goal

pub returns : goal.returns
returns c = LeavesIdle-holds
