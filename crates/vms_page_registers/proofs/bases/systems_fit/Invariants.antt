use Rattle.std.proofs.Common.{◌<◌, ◌≤◌, ◌^◌, ℕ, unsigned_abs}
use Rattle.vms_core.specs.Cells as cells
use Rattle.vms_page_registers.proofs.bases.systems_fit.Given as goal

abbrev pub invariant-loop-number : goal.invariant-loop-number
invariant-loop-number l = (i : ℕ) → i < l.number → unsigned_abs (cells.system_at l.state i) ≤ 2 ^ 60
