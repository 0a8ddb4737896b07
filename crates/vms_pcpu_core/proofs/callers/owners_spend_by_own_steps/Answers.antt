use Rattle.vms_pcpu_core.proofs.StepConditions.{spends-steps}
use Rattle.vms_pcpu_core.proofs.callers.owners_spend_by_own_steps.Goals as goal

pub returns : goal.returns
returns c = spends-steps
