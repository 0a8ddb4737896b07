-- A tree of groups: which numbers it has, who is whose parent, and which groups are in a subtree.
use Rattle.std.specs.Prelude.{◌≡◌, ℕ, suc, zero, ◌<◌, ◌≤◌, nat_eq, ◌||◌, Bool, false, List, [], ◌∷◌, ◌++◌, length}
use Rattle.std.specs.Prelude.{slice_index_or, Option, Some, None, ℤ, pos, if◌then◌else◌}
use Rattle.vms_history.specs.Common.{sum_below}
use Rattle.vms_group_core.specs.declared.trees.Tree.{Tree}

abbrev pub group_count : Tree → ℕ
group_count tree = length tree.parents

-- the number of a group
abbrev pub IsGroup : Tree → ℕ → Type 0
IsGroup tree g = g < group_count tree

-- the number of a CPU
abbrev pub IsTreeCpu : Tree → ℕ → Type 0
IsTreeCpu tree c = c < tree.cpus

-- the parent of a group, if it has one
abbrev pub parent_of : Tree → ℕ → Option ℕ
parent_of tree g = slice_index_or tree.parents g None

-- groups and CPUs that a tree may have: each parent is declared above its children
pub record IsTree (tree : Tree) : Type 0 where
  pub groups_least : 1 ≤ group_count tree
  pub groups_most : group_count tree ≤ 64
  pub cpus_least : 1 ≤ tree.cpus
  pub cpus_most : tree.cpus ≤ 64
  pub parents_above : (g parent : ℕ) → parent_of tree g ≡ Some parent → parent < g

-- whether this parent is the group x
abbrev pub is_parent : Option ℕ → ℕ → Bool
is_parent None x = false
is_parent (Some y) x = nat_eq y x

-- whether group y is a child of group x
abbrev pub is_child : Tree → ℕ → ℕ → Bool
is_child tree y x = is_parent (parent_of tree y) x

-- whether this parent is one of the groups with a flag
abbrev pub is_flagged : List Bool → Option ℕ → Bool
is_flagged flags None = false
is_flagged flags (Some y) = slice_index_or flags y false

-- a flag for each group in order of declaration, after those that the groups above have: a group is in the subtree of g
-- if it is g, or if its parent is in that subtree
abbrev pub flags_after : ℕ → List Bool → List (Option ℕ) → List Bool
flags_after g flags [] = flags
flags_after g flags (parent ∷ parents) =
    flags_after g (flags ++ (nat_eq (length flags) g || is_flagged flags parent) ∷ []) parents

-- whether each group is in the subtree of g
abbrev pub subtree_flags : Tree → ℕ → List Bool
subtree_flags tree g = flags_after g [] tree.parents

abbrev pub in_subtree : Tree → ℕ → ℕ → Bool
in_subtree tree g x = slice_index_or (subtree_flags tree g) x false

-- a sum over the groups of the subtree of g
abbrev pub over_subtree : Tree → ℕ → (ℕ → ℤ) → ℤ
over_subtree tree g f = sum_below (λ x. if in_subtree tree g x then f x else pos 0) (group_count tree)

-- the groups of the subtree of g below number n, the last declared first
abbrev pub subtree_below : Tree → ℕ → ℕ → List ℕ
subtree_below tree g zero = []
subtree_below tree g (suc x) =
    if in_subtree tree g x then x ∷ subtree_below tree g x else subtree_below tree g x

abbrev pub subtree : Tree → ℕ → List ℕ
subtree tree g = subtree_below tree g (group_count tree)
