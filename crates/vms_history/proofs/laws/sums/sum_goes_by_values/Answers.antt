use Rattle.vms_history.proofs.SumLaws.{sum_below-same, sum_below-zeros, sum_below-sum, sum_below-changed}
use Rattle.vms_history.proofs.laws.sums.sum_goes_by_values.Goals as goal

pub returns : goal.returns
returns c = record {
  same = sum_below-same;
  zeros = sum_below-zeros;
  two = sum_below-sum;
  changed = sum_below-changed;
}
