use Rattle.std.proofs.Common.{◌<◌, ◌≤◌, ◌^◌, ℕ, unsigned_abs}
use Rattle.vms_core.specs.Cells as cells
use Rattle.vms_page_registers.proofs.bases.values_fit.Given as goal

abbrev pub invariant-loop-number : goal.invariant-loop-number
invariant-loop-number l = (k : ℕ) → k < l.number → unsigned_abs (cells.value_at l.state k) ≤ 2 ^ 60
