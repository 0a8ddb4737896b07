use Rattle.vms_calls.proofs.FoldCalls.{fold-may}
use Rattle.vms_calls.proofs.allowed_steps.folds_may_be_made.Goals as goal

pub returns : goal.returns
returns c = fold-may
