use Rattle.std.proofs.Common.{◌≡◌, ◌<◌, ◌≤◌, ◌+◌, ℕ, get_or, length}
use Rattle.vms_cells.specs.Cells.{at}
use Rattle.vms_page_peaks.proofs.steps.take_out.Given as goal

abbrev pub invariant-loop-zone : goal.invariant-loop-zone
invariant-loop-zone l = record {
  zones : length l.sums ≡ length l.fn.sums;
  done : (g : ℕ) → g < l.zone → get_or l.sums g 0 + at l.peaks l.cpu g 0 ≡ get_or l.fn.sums g 0;
  left : (g : ℕ) → l.zone ≤ g → get_or l.sums g 0 ≡ get_or l.fn.sums g 0;
}
