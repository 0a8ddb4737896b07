use Rattle.std.proofs.Common.{◌≢◌, ℕ, ◌<◌}
use Rattle.vms_group_registers.specs.Rises.{rise_at}
use Rattle.vms_group_registers.proofs.rises.Rises.has_none.Given as goal

abbrev pub invariant-loop-at : goal.invariant-loop-at
invariant-loop-at l = (i : ℕ) → i < l.at → (rise_at l.self i).slot ≢ l.slot
