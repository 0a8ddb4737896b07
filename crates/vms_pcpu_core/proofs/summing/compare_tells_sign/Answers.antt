use Rattle.vms_pcpu_core.proofs.SumCalls.{compare-rough, compare-by_sum}
use Rattle.vms_pcpu_core.proofs.summing.compare_tells_sign.Goals as goal

pub returns : goal.returns
returns c = record { rough = compare-rough; by_sum = compare-by_sum }
