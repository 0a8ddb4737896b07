use Rattle.std.proofs.Common.{◌≡◌, ◌<◌, ℕ, None}
use Rattle.vms_core.specs.Cells as cells
use Rattle.vms_page_registers.proofs.openings.none_is_acknowledged.Given as goal

abbrev pub invariant-loop-number : goal.invariant-loop-number
invariant-loop-number l = (g : ℕ) → g < l.number → cells.acknowledged_at l.state l.cpu.number g ≡ None
