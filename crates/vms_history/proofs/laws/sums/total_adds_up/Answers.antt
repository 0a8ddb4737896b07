use Rattle.vms_history.proofs.SumLaws.{total-append, total-sum}
use Rattle.vms_history.proofs.laws.sums.total_adds_up.Goals as goal

pub returns : goal.returns
returns g c = record { lists = total-append; measures = total-sum }
