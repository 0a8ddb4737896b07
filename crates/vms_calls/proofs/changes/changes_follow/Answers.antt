use Rattle.vms_calls.proofs.LoneChanges.{GoesOnWithChange-holds}
use Rattle.vms_calls.proofs.changes.changes_follow.Goals as goal

pub returns : goal.returns
returns c = GoesOnWithChange-holds
