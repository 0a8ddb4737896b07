use Rattle.std.proofs.Common.{◌≡◌}
use Rattle.vms_group_core.specs.Common.{IsGroup, in_subtree as in_subtree_of}
use Rattle.vms_group_registers.proofs.bases.in_subtree.Given as goal

abbrev pub invariant-loop-at : goal.invariant-loop-at
invariant-loop-at l = record {
  known : IsGroup l.tree l.at;
  same : in_subtree_of l.tree l.group l.below ≡ in_subtree_of l.tree l.group l.at;
}

abbrev pub decreases-loop-at : goal.decreases-loop-at
decreases-loop-at l = l.at
