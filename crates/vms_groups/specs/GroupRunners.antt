-- What runs the phases of a trace of groups.
use Rattle.std.specs.Prelude.{◌≡◌, List, Result, IfOk}
use Rattle.std.specs.Fn.{Shared}
use denote.Ref.{Bor}
use Rattle.vms_base.specs.declared.failures.Memory.{Memory}
use Rattle.vms_group_core.specs.declared.trees.Tree.{Tree}
use Rattle.vms_group_core.specs.Common.{IsTree}
use Rattle.vms_group_phase.specs.declared.items.GroupItem.{GroupItem}
use Rattle.vms_group_phase.specs.declared.phases.GroupPhaseDone.{GroupPhaseDone}
use Rattle.vms_group_phase.specs.declared.worlds.GroupWorld.{GroupWorld}
use Rattle.vms_group_phase.specs.Common.{FitGroups, IsGroupPhase, IsGroupWorld, group_facts, group_values}
use Rattle.vms_group_phase.specs.Common.{left_group_world}
use Rattle.vms_groups.specs.PastPhases.{PastGroupPhase}

-- the predicates of closures that are called at a tree, a world and lines, and return a phase unless no memory is found
abbrev pub RunnerPredicates : Type 0 → Type 1
RunnerPredicates F =
    Shared F (Bor Tree × (GroupWorld × (Bor (List GroupItem) × Unit {0}))) (Result GroupPhaseDone Memory)

-- a closure may be called with these lines of a phase from this world
pub record AcceptsPhase {F : Type 0} (g : RunnerPredicates F) (f : F) (tree : Tree) (w : GroupWorld)
    (items : List GroupItem) : Type 0 where
  pub callable : (shown : Bor Tree) (lines : Bor (List GroupItem)) → shown.now ≡ tree → lines.now ≡ items
      → g.pre f (shown, (w, (lines, tt)))

-- what a closure may return then
pub record ReturnsPhase {F : Type 0} (g : RunnerPredicates F) (f : F) (tree : Tree) (w : GroupWorld)
    (items : List GroupItem) (result : Result GroupPhaseDone Memory) : Type 0 where
  pub shown : Bor Tree
  pub lines : Bor (List GroupItem)
  pub shows : shown.now ≡ tree
  pub tells : lines.now ≡ items
  pub returned : g.post f (shown, (w, (lines, tt))) result

-- a phase of these lines may be run from this world
abbrev pub MayRun : Tree → GroupWorld → List GroupItem → Type 0
MayRun tree w items = IsTree tree × IsGroupWorld tree w × FitGroups tree w items

-- a phase of these lines was run from this world: its history is one of them, and tells the world that it left and what
-- the lines answered
pub record IsRun (tree : Tree) (w : GroupWorld) (items : List GroupItem) (done : GroupPhaseDone) : Type 0 where
  pub facts : done.history.facts ≡ group_facts tree w
  pub is : IsGroupPhase tree w items done.history.events
  pub world : done.world ≡ left_group_world tree w items done.history.events
  pub values : done.values.items ≡ group_values tree w items done.history.events

-- a runner runs every phase that may be run, unless it finds no memory
pub record RunsPhases (accepts : Tree → GroupWorld → List GroupItem → Type 0)
    (returns : Tree → GroupWorld → List GroupItem → Result GroupPhaseDone Memory → Type 0) : Type 0 where
  pub callable : (tree : Tree) (w : GroupWorld) (items : List GroupItem) → MayRun tree w items → accepts tree w items
  pub runs : (tree : Tree) (w : GroupWorld) (items : List GroupItem) (result : Result GroupPhaseDone Memory)
      → MayRun tree w items → returns tree w items result → IfOk result (IsRun tree w items)

-- an engine has a runner and the phases that were made
pub record Running (F : Type 0) : Type 0 where
  pub runner : F
  pub made : List PastGroupPhase
