use Rattle.vms_history.proofs.OwnAt.{newest_own, own_at-newest, last_in_row}
use Rattle.vms_history.proofs.laws.own_at.newest_own_parts.Goals as goal

pub returns : goal.returns
returns g c = record { parts = newest_own; at = own_at-newest; in_row = last_in_row }
