-- Where the words of a tree of groups stand, what a write makes of them, and what they come to.
use Rattle.std.specs.Prelude.{◌≡◌, ℕ, ◌*◌, ℤ, pos, ◌+ℤ◌, unsigned_abs, length, slice_index_or, slice_set}
use Rattle.vms_history.specs.Common.{cell, sum_below}
use Rattle.vms_group_core.specs.declared.states.GroupState.{GroupState}
use Rattle.vms_group_core.specs.declared.trees.Tree.{Tree}
use Rattle.vms_group_core.specs.Trees.{group_count, over_subtree}

-- the value of a group
abbrev pub value_at : GroupState → ℕ → ℤ
value_at s g = slice_index_or s.value g (pos 0)

-- what is pending for a group from its children
abbrev pub up_at : GroupState → ℕ → ℤ
up_at s g = slice_index_or s.up g (pos 0)

-- what is pending for a group from a CPU
abbrev pub pending_at : Tree → GroupState → ℕ → ℕ → ℤ
pending_at tree s c g = slice_index_or s.pending (cell (group_count tree) c g) (pos 0)

-- the state with one word changed
abbrev pub with_value : GroupState → ℕ → ℤ → GroupState
with_value s g v = record s { value = slice_set s.value g v }

abbrev pub with_up : GroupState → ℕ → ℤ → GroupState
with_up s g v = record s { up = slice_set s.up g v }

abbrev pub with_pending : Tree → GroupState → ℕ → ℕ → ℤ → GroupState
with_pending tree s c g v = record s { pending = slice_set s.pending (cell (group_count tree) c g) v }

-- there are two words for each group, and one for each CPU and group
pub record HasShape (tree : Tree) (s : GroupState) : Type 0 where
  pub value : length s.value ≡ group_count tree
  pub up : length s.up ≡ group_count tree
  pub pending : length s.pending ≡ tree.cpus * group_count tree

-- two measures of an amount: the amount, and its size
abbrev pub as_is : ℤ → ℤ
as_is a = a

abbrev pub size_of : ℤ → ℤ
size_of a = pos (unsigned_abs a)

-- what is pending for a group from all CPUs and from its children, each word by this measure
abbrev pub pending_of : (ℤ → ℤ) → Tree → GroupState → ℕ → ℤ
pending_of measure tree s g = sum_below (λ c. measure (pending_at tree s c g)) tree.cpus +ℤ measure (up_at s g)

-- the value of group g and all that is pending in its subtree
abbrev pub standing : (ℤ → ℤ) → Tree → GroupState → ℕ → ℤ
standing measure tree s g = measure (value_at s g) +ℤ over_subtree tree g (pending_of measure tree s)
