use Rattle.vms_pcpu_core.proofs.BaseAgain.{totals-hold}
use Rattle.vms_pcpu_core.proofs.endings.complete_histories_hold_totals.Goals as goal

pub returns : goal.returns
returns c = totals-hold
