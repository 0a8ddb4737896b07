use Rattle.vms_pcpu_core.proofs.StepConditions.{spends-amount}
use Rattle.vms_pcpu_core.proofs.callers.calls_spend_their_amounts.Goals as goal

pub returns : goal.returns
returns c = spends-amount
