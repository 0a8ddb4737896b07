use Rattle.vms_calls.proofs.Meanwhile.{CallsLeaveMeanwhile-holds, ChangesLeaveMeanwhile-holds}
use Rattle.vms_calls.proofs.callers.made_calls_leave_their_caller.Goals as goal

pub returns : goal.returns
returns c = record { call = CallsLeaveMeanwhile-holds; change = ChangesLeaveMeanwhile-holds }
