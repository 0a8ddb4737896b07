-- What a pass knows of its CPU.
use Rattle.vms_group_core.proofs.Spending.{spending-known}
use Rattle.vms_group_core.proofs.laws.spending_is_known.Goals as goal

pub returns : goal.returns
returns c = spending-known
