use Rattle.std.proofs.Common.{◌<◌, ◌^◌, ℕ}
use Rattle.vms_core.specs.Cells as cells
use Rattle.vms_page_registers.proofs.bases.marks_fit.Given as goal

abbrev pub invariant-loop-g : goal.invariant-loop-g
invariant-loop-g l = (g : ℕ) → g < l.g → cells.mark_at l.state g < 2 ^ 43
