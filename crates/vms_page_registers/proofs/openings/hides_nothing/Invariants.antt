use Rattle.std.proofs.Common.{◌≡◌, ◌<◌, ℕ, pos}
use Rattle.vms_core.specs.Cells as cells
use Rattle.vms_page_registers.proofs.openings.hides_nothing.Given as goal

abbrev pub invariant-loop-number : goal.invariant-loop-number
invariant-loop-number l = (k : ℕ) → k < l.number → cells.diff_at l.state l.cpu.number k ≡ pos 0
