use Rattle.std.proofs.Common.{◌≡◌, ◌≤◌, ◌+◌, ◌*◌, pos, ◌+ℤ◌, if◌then◌else◌}
use Rattle.std.specs.Prelude.{◌^◌}
use Rattle.vms_history.specs.Common.{sum_below}
use Rattle.vms_group_core.specs.Common.{in_subtree, pending_of, size_of, value_at}
use Rattle.vms_group_registers.proofs.bases.standing.Given as goal

abbrev pub invariant-loop-below : goal.invariant-loop-below
invariant-loop-below l = record {
  value : pos l.sum
      ≡ size_of (value_at l.facts.base l.group)
      +ℤ sum_below (λ x. if in_subtree l.facts.tree l.group x then pending_of size_of l.facts.tree l.facts.base x
      else pos 0) l.below;
  most : l.sum ≤ (l.below + 1) * (2 ^ 70);
}
