use Rattle.vms_history.proofs.OwnAt.{own_at-made, newest_own-made}
use Rattle.vms_history.proofs.laws.own_at.own_events_are_legal.Goals as goal

pub returns : goal.returns
returns g c = record { each = own_at-made g.T.Table.machine; newest = newest_own-made g.T.Table.machine }
