use Rattle.vms_pcpu_core.proofs.OwnSteps.{goes_by_own_steps}
use Rattle.vms_pcpu_core.proofs.callers.callers_go_by_own_steps.Goals as goal

pub returns : goal.returns
returns c = goes_by_own_steps
