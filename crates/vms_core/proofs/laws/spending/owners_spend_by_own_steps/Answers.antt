use Rattle.vms_core.proofs.Spending.{owner-spends}
use Rattle.vms_core.proofs.laws.spending.owners_spend_by_own_steps.Goals as goal

pub returns : goal.returns
returns c = owner-spends
