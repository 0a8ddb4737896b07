use Rattle.vms_calls.proofs.CallerLaws.{change-leaves, change-spends}
use Rattle.vms_calls.proofs.changes.changes_spend_their_size.Goals as goal

pub returns : goal.returns
returns c = record { leaves = change-leaves; spends = change-spends }
