use Rattle.std.proofs.Common.{◌<◌, ◌≤◌, ℕ, unsigned_abs}
use Rattle.vms_history.specs.Common.{most_threshold}
use Rattle.vms_core.specs.Cells as cells
use Rattle.vms_page_registers.proofs.openings.diffs_fit.Given as goal

abbrev pub invariant-loop-number : goal.invariant-loop-number
invariant-loop-number l = (k : ℕ) → k < l.number → unsigned_abs (cells.diff_at l.state l.cpu.number k) ≤ most_threshold
