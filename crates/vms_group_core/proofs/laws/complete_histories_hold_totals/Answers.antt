-- What stands at the end of a complete history.
use Rattle.vms_group_core.proofs.Endings.{totals-held}
use Rattle.vms_group_core.proofs.laws.complete_histories_hold_totals.Goals as goal

pub returns : goal.returns
returns c = totals-held
