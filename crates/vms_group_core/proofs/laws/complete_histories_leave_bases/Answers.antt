-- What a complete history leaves is a base.
use Rattle.vms_group_core.proofs.Endings.{begins_again, begins-paid}
use Rattle.vms_group_core.proofs.laws.complete_histories_leave_bases.Goals as goal

pub returns : goal.returns
returns c = record {
  small = begins_again;
  within_volumes = λ facts h earlier complete paid. begins-paid facts h complete earlier paid;
}
