-- The lines of a phase: whose they are, what they spend, and what they change.
use Rattle.std.specs.Prelude.{◌≡◌, ℕ, zero, suc, ◌+◌, nat_eq, Bool, true, false, List, [], ◌∷◌, ◌++◌, length, filter}
use Rattle.std.specs.Prelude.{if◌then◌else◌, ℤ, pos, ◌+ℤ◌, slice_index}
use Rattle.vms_group_core.specs.declared.call_values.GroupCall.{GroupCall}
use Rattle.vms_group_core.specs.declared.call_values.GroupCall.TheVariants.{Change, Flush, Value}
use Rattle.vms_group_core.specs.declared.trees.Tree.{Tree}
use Rattle.vms_group_core.specs.Common.{IsGroup, IsTreeCpu, group_spent, in_subtree}
use Rattle.vms_group_phase.specs.declared.items.GroupItem.{GroupItem}

-- the group that a call names
abbrev pub group_of : GroupCall → ℕ
group_of (Change g a) = g
group_of (Flush g) = g
group_of (Value g) = g

-- a line names a CPU and a group of the tree
pub record IsLineOf (tree : Tree) (item : GroupItem) : Type 0 where
  pub cpu : IsTreeCpu tree item.cpu.number
  pub group : IsGroup tree (group_of item.call)

-- the lines of the lane of CPU c, in their order
abbrev pub lane_lines : ℕ → List GroupItem → List GroupItem
lane_lines c items = filter (λ item. nat_eq item.cpu.number c) items

-- the number of each CPU is how many of these lines its lane has
pub record AreCounted (tree : Tree) (counts : List ℕ) (items : List GroupItem) : Type 0 where
  pub one_each : length counts ≡ tree.cpus
  pub each : (c : ℕ) → IsTreeCpu tree c → slice_index counts c ≡ length (lane_lines c items)

-- whether a call asks for a value
abbrev pub asks : GroupCall → Bool
asks (Value g) = true
asks _ = false

-- those of the lines that ask for a value, in their order
abbrev pub asking : List GroupItem → List GroupItem
asking lines = filter (λ line. asks line.call) lines

-- whether there is a line
abbrev pub has_some : List GroupItem → Bool
has_some [] = false
has_some (item ∷ items) = true

-- the lanes that have lines among those of the CPUs below n, by their CPUs in ascending order
abbrev pub lanes_below : List GroupItem → ℕ → List ℕ
lanes_below items zero = []
lanes_below items (suc c) =
    if has_some (lane_lines c items) then lanes_below items c ++ c ∷ [] else lanes_below items c

-- the number of the pass of a lane that has lines: 1 for the first of these lanes, 2 for the next
abbrev pub pass_of : List GroupItem → ℕ → ℕ
pass_of items c = suc (length (lanes_below items c))

-- what lines of one lane spend of the volume of its CPU on group g: each change its size
abbrev pub spent_by_lines : List GroupItem → ℕ → ℕ
spent_by_lines [] g = 0
spent_by_lines (item ∷ lines) g = group_spent item.call g + spent_by_lines lines g

-- what a call changes in the subtree of group g
abbrev pub plain_change : Tree → GroupCall → ℕ → ℤ
plain_change tree (Change x a) g = if in_subtree tree g x then a else pos 0
plain_change tree _ g = pos 0

-- the plain sum of all changes in the subtree of group g
abbrev pub plain_group_sum : Tree → List GroupItem → ℕ → ℤ
plain_group_sum tree [] g = pos 0
plain_group_sum tree (item ∷ items) g = plain_change tree item.call g +ℤ plain_group_sum tree items g
