-- What stands at the end of a complete history is a base.
use Rattle.vms_event_core.proofs.Endings.{BeginsAgain-holds, begins-paid}
use Rattle.vms_event_core.proofs.laws.complete_histories_leave_bases.Goals as goal

pub returns : goal.returns
returns c = record {
  small = BeginsAgain-holds;
  within_volumes = λ facts h start earlier complete. begins-paid facts h complete start earlier;
}
