-- A phase of groups that was made, what stands after it, and what its lines come to.
use Rattle.std.specs.Prelude.{◌≡◌, ℕ, ℤ, pos, ◌+ℤ◌, List, [], ◌∷◌, Option, Some, None}
use Rattle.vms_group_core.specs.declared.steps.GroupFacts.{GroupFacts}
use Rattle.vms_group_core.specs.declared.trees.Tree.{Tree}
use Rattle.vms_group_core.specs.Common.{History, IsGroup, value_at}
use Rattle.vms_group_phase.specs.declared.items.GroupItem.{GroupItem}
use Rattle.vms_group_phase.specs.declared.worlds.GroupWorld.{GroupWorld}
use Rattle.vms_group_phase.specs.Common.{IsGroupPhase, group_facts, left_group_world, pending_in, plain_group_sum}

-- a phase that was made: its lines, what its table was told, and its history
pub record PastGroupPhase : Type 0 where
  pub items : List GroupItem
  pub facts : GroupFacts
  pub events : History

-- it is one of these lines, from this world
pub record IsPhaseFrom (tree : Tree) (w : GroupWorld) (items : List GroupItem) (phase : PastGroupPhase) : Type 0 where
  pub of : phase.items ≡ items
  pub told : phase.facts ≡ group_facts tree w
  pub is : IsGroupPhase tree w items phase.events

-- the world after it, or the one that stands where no phase was made
abbrev pub group_world_after : Tree → GroupWorld → Option PastGroupPhase → GroupWorld
group_world_after tree w None = w
group_world_after tree w (Some phase) = left_group_world tree w phase.items phase.events

-- the lines of the phases that were made, those of the newest first, with the one that ends
abbrev pub with_lines : Option PastGroupPhase → List (List GroupItem) → List (List GroupItem)
with_lines None past = past
with_lines (Some phase) past = phase.items ∷ past

-- the plain sum of all changes in the subtree of group g in the lines of these phases
abbrev pub plain_total : Tree → List (List GroupItem) → ℕ → ℤ
plain_total tree [] g = pos 0
plain_total tree (items ∷ past) g = plain_total tree past g +ℤ plain_group_sum tree items g

-- of each group, its value and what is pending in its subtree are that sum
abbrev pub HasPlainTotals : Tree → List (List GroupItem) → GroupWorld → Type 0
HasPlainTotals tree past w =
    (g : ℕ) → IsGroup tree g → value_at w.words g +ℤ pending_in tree w.words g ≡ plain_total tree past g
