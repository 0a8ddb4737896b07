use Rattle.std.proofs.Common.{◌≡◌, ◌≤◌, ◌*◌, []}
use Rattle.vms_history.specs.Common.{count_below}
use Rattle.vms_page_peaks.proofs.PeakSums.{hidden}
use Rattle.vms_page_peaks.proofs.opening.opening_sum.Given as goal

abbrev pub invariant-loop-number : goal.invariant-loop-number
invariant-loop-number l = record {
  value : l.sum ≡ count_below (hidden l.facts [] l.zone) l.number;
  bound : l.sum ≤ 125 * l.number;
}
