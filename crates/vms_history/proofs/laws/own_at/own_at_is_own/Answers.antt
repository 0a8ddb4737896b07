use Rattle.vms_history.proofs.OwnAt.{own_at-events, own_at-append}
use Rattle.vms_history.proofs.laws.own_at.own_at_is_own.Goals as goal

pub returns : goal.returns
returns g c = record { events = own_at-events; append = own_at-append }
