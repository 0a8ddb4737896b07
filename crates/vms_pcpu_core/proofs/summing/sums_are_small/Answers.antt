use Rattle.std.proofs.Common.{arith}
use Rattle.vms_pcpu_core.proofs.SumSizes.{sum-small}
use Rattle.vms_pcpu_core.proofs.summing.sums_are_small.Goals as goal

pub returns : goal.returns
returns c = record { answer = sum-small; fits = omega arith }
