-- What others do changes no spending of the pass's CPU.
use Rattle.vms_event_core.proofs.Spending.{spending-known}
use Rattle.vms_event_core.proofs.laws.spending_is_known.Goals as goal

pub returns : goal.returns
returns c = spending-known
