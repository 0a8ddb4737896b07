use Rattle.std.proofs.Common.{ℕ, ◌<◌, pos, ◌≤ℤ◌}
use Rattle.vms_group_core.specs.Common.{most_in_base, size_of, standing}
use Rattle.vms_group_registers.proofs.bases.sums_fit.Given as goal

abbrev pub invariant-loop-group : goal.invariant-loop-group
invariant-loop-group l =
    (g : ℕ) → g < l.group → standing size_of l.facts.tree l.facts.base g ≤ℤ pos most_in_base
