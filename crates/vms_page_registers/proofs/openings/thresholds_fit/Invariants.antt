use Rattle.std.proofs.Common.{◌<◌, ◌≤◌, ℕ}
use Rattle.vms_history.specs.Common.{most_threshold}
use Rattle.vms_core.specs.Cells as cells
use Rattle.vms_page_registers.proofs.openings.thresholds_fit.Given as goal

abbrev pub invariant-loop-number : goal.invariant-loop-number
invariant-loop-number l = (g : ℕ) → g < l.number
    → (l.least ≤ cells.threshold_at l.state l.cpu.number g)
    × (cells.threshold_at l.state l.cpu.number g ≤ most_threshold)
