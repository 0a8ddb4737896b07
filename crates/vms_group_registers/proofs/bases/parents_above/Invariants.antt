use Rattle.std.proofs.Common.{◌≡◌, ℕ, ◌<◌, Some}
use Rattle.vms_group_core.specs.Common.{parent_of}
use Rattle.vms_group_registers.proofs.bases.parents_above.Given as goal

abbrev pub invariant-loop-group : goal.invariant-loop-group
invariant-loop-group l = (g : ℕ) → g < l.group → (parent : ℕ) → parent_of l.tree g ≡ Some parent → parent < g
