use Rattle.std.proofs.Common.{◌≡◌, ◌<◌, ℕ}
use Rattle.vms_core.specs.Cells as cells
use Rattle.vms_page_registers.proofs.bases.no_mark_is_set.Given as goal

abbrev pub invariant-loop-g : goal.invariant-loop-g
invariant-loop-g l = (g : ℕ) → g < l.g → cells.mark_sets_at l.state g ≡ 0
