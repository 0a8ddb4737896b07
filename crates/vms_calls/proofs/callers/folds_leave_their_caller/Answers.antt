use Rattle.vms_calls.proofs.CallerLaws.{fold-leaves}
use Rattle.vms_calls.proofs.callers.folds_leave_their_caller.Goals as goal

pub returns : goal.returns
returns c = λ shape is_own cpu layout p began steps fold h. fold-leaves shape layout is_own cpu p steps h fold
