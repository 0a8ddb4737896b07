use Rattle.vms_history.proofs.CallerSums.{total-of_callers}
use Rattle.vms_history.proofs.laws.sums.total_by_caller.Goals as goal

pub returns : goal.returns
returns g c = total-of_callers g.T.Table.machine
