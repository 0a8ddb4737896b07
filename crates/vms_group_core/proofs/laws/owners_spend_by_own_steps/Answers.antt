-- What a CPU spends while a pass owns it.
use Rattle.vms_group_core.proofs.CallSpending.{owner-spends}
use Rattle.vms_group_core.proofs.laws.owners_spend_by_own_steps.Goals as goal

pub returns : goal.returns
returns c = λ facts later earlier p steps cpu made. owner-spends facts later earlier p steps made cpu
