-- The goal was what a snapshot tells, and what follows of it.
use Rattle.vms_near.proofs.Snapshots.{sums-by_looks, sums-by_peaks, sums-exact, sums-nearly, sums-untouched}
use Rattle.vms_near.proofs.summing.snapshots_sum_nearly.Goals as goal

pub returns : goal.returns
returns c = record {
  sums = sums-nearly;
  unmoved = sums-exact;
  untouched = sums-untouched;
  peaks = sums-by_peaks;
  looks = sums-by_looks;
}
