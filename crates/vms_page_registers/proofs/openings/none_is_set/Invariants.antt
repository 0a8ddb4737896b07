use Rattle.std.proofs.Common.{◌≡◌, ◌<◌, ℕ}
use Rattle.vms_core.specs.Cells as cells
use Rattle.vms_page_registers.proofs.openings.none_is_set.Given as goal

abbrev pub invariant-loop-number : goal.invariant-loop-number
invariant-loop-number l = (g : ℕ) → g < l.number → cells.threshold_sets_at l.state l.cpu.number g ≡ 0
