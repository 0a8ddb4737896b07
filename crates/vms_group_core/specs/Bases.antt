-- The facts that a history may begin with.
use Rattle.std.specs.Prelude.{ℕ, ◌*◌, ◌^◌, pos, ◌≤ℤ◌, replicate}
use Rattle.vms_group_core.specs.declared.states.GroupState.{GroupState}
use Rattle.vms_group_core.specs.declared.steps.GroupFacts.{GroupFacts}
use Rattle.vms_group_core.specs.declared.trees.Tree.{Tree}
use Rattle.vms_group_core.specs.Trees.{IsTree, IsGroup, group_count}
use Rattle.vms_group_core.specs.Words.{HasShape, standing, size_of}

-- what the sizes of a group's value and of all that is pending in its subtree may add up to in the base
abbrev pub most_in_base : ℕ
most_in_base = 2 ^ 60

-- the words fit the tree, and those of no subtree are too large in sum
pub record IsBase (facts : GroupFacts) : Type 0 where
  pub tree : IsTree facts.tree
  pub shaped : HasShape facts.tree facts.base
  pub sums : (g : ℕ) → IsGroup facts.tree g → standing size_of facts.tree facts.base g ≤ℤ pos most_in_base

-- the words of a tree in which nothing was changed
abbrev pub zeros_of : Tree → GroupState
zeros_of tree = record {
  value = replicate (group_count tree) (pos 0);
  up = replicate (group_count tree) (pos 0);
  pending = replicate (tree.cpus * group_count tree) (pos 0);
}

-- the facts of such a tree
abbrev pub fresh : Tree → GroupFacts
fresh tree = record { tree = tree; base = zeros_of tree }
