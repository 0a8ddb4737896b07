use Rattle.vms_pcpu_core.proofs.SumCalls.{sum-call}
use Rattle.vms_pcpu_core.proofs.summing.sum_reads_true_total.Goals as goal

pub returns : goal.returns
returns c = sum-call
