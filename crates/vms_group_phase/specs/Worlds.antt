-- What stands between two phases, which lines a phase may have then, and what it leaves.
use Rattle.std.specs.Prelude.{◌≡◌, ℕ, ◌+◌, ◌*◌, ◌≤◌, ℤ, List, All, length, replicate, slice_index}
use Rattle.vms_history.specs.Common.{cell, most_volume}
use Rattle.vms_group_core.specs.declared.states.GroupState.{GroupState}
use Rattle.vms_group_core.specs.declared.steps.GroupFacts.{GroupFacts}
use Rattle.vms_group_core.specs.declared.trees.Tree.{Tree}
use Rattle.vms_group_core.specs.Common.{History, IsBase, IsGroup, IsPaid, IsTreeCpu, as_is, group_count, over_subtree}
use Rattle.vms_group_core.specs.Common.{pending_of, state_after, zeros_of}
use Rattle.vms_group_phase.specs.declared.items.GroupItem.{GroupItem}
use Rattle.vms_group_phase.specs.declared.worlds.GroupWorld.{GroupWorld}
use Rattle.vms_group_phase.specs.Lines.{IsLineOf, lane_lines, spent_by_lines}
use Rattle.vms_group_phase.specs.Listed.{listed_by_cpu}

-- what is known of the tree in a phase that begins with this world
abbrev pub group_facts : Tree → GroupWorld → GroupFacts
group_facts tree w = record { tree = tree; base = w.words }

-- what CPU c has changed group g by so far, in size
abbrev pub group_volume_in : List ℕ → Tree → ℕ → ℕ → ℕ
group_volume_in volumes tree c g = slice_index volumes (cell (group_count tree) c g)

-- the world before the first phase, in which nothing was changed
abbrev pub first_group_world : Tree → GroupWorld
first_group_world tree = record { words = zeros_of tree; volumes = replicate (tree.cpus * group_count tree) 0 }

-- a phase may begin with this world: its words are a base, each CPU changed each group within its volume, and all that
-- stands was paid by that
pub record IsGroupWorld (tree : Tree) (w : GroupWorld) : Type 0 where
  pub base : IsBase (group_facts tree w)
  pub one_each : length w.volumes ≡ tree.cpus * group_count tree
  pub most : (c g : ℕ) → IsTreeCpu tree c → IsGroup tree g → group_volume_in w.volumes tree c g ≤ most_volume
  pub paid : IsPaid (group_facts tree w) (group_volume_in w.volumes tree)

-- what CPU c has changed group g by after these lines, in size
abbrev pub group_volume_after : List ℕ → Tree → List GroupItem → ℕ → ℕ → ℕ
group_volume_after volumes tree items c g = group_volume_in volumes tree c g + spent_by_lines (lane_lines c items) g

-- lines that name CPUs and groups of the tree, with which no CPU changes a group by more than its volume
pub record FitVolumes (tree : Tree) (volumes : List ℕ) (items : List GroupItem) : Type 0 where
  pub lines : All (IsLineOf tree) items
  pub most : (c g : ℕ) → IsTreeCpu tree c → IsGroup tree g → group_volume_after volumes tree items c g ≤ most_volume

-- a phase from this world may have these lines
abbrev pub FitGroups : Tree → GroupWorld → List GroupItem → Type 0
FitGroups tree w items = FitVolumes tree w.volumes items

-- the world that a phase of these lines leaves with this history: the words of its last state, and the volumes grown by
-- what the lines say
abbrev pub left_group_world : Tree → GroupWorld → List GroupItem → History → GroupWorld
left_group_world tree w items h = record {
  words = state_after (group_facts tree w) h;
  volumes = listed_by_cpu (group_volume_after w.volumes tree items) tree.cpus (group_count tree);
}

-- what is pending in the subtree of a group, from CPUs and from children
abbrev pub pending_in : Tree → GroupState → ℕ → ℤ
pending_in tree words g = over_subtree tree g (pending_of as_is tree words)
