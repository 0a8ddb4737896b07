use Rattle.vms_pcpu_core.proofs.BaseAgain.{BeginsAgain-holds, volumes-begin_again}
use Rattle.vms_pcpu_core.proofs.endings.complete_histories_leave_bases.Goals as goal

pub returns : goal.returns
returns c = record { small = BeginsAgain-holds; within_volumes = volumes-begin_again }
