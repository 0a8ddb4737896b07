use Rattle.vms_history.proofs.Own as own
use Rattle.vms_history.proofs.laws.callers.own_of_list.Goals as goal

pub returns : goal.returns
returns g c = record { mine = own.own-mine; others = own.own-others; append = own.own-append; again = own.own-own }
