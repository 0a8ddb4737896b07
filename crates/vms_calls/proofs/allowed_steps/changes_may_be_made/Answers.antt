use Rattle.vms_calls.proofs.ChangeRuns.{change-may}
use Rattle.vms_calls.proofs.allowed_steps.changes_may_be_made.Goals as goal

pub returns : goal.returns
returns c = change-may
