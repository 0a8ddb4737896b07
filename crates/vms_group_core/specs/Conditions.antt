-- What each kind of step asks, in the words before it and of the history before it.
use Rattle.std.specs.Prelude.{◌≡◌, ◌≢◌, ℕ, ◌+◌, ◌≤◌, ℤ, pos, List, Some, Contains, unsigned_abs}
use Rattle.vms_history.specs.Common.{CpuId, most_volume, own, owner_in}
use Rattle.vms_history.specs.declared.events.Event.{Event}
use Rattle.vms_group_core.specs.declared.states.GroupState.{GroupState}
use Rattle.vms_group_core.specs.declared.steps.GroupFacts.{GroupFacts}
use Rattle.vms_group_core.specs.declared.steps.GroupStep.{GroupStep}
use Rattle.vms_group_core.specs.declared.steps.GroupStep.TheVariants.{AddP, TakeP, TakeU, AddV, AddU, LoadV, Split}
use Rattle.vms_group_core.specs.declared.steps.GroupStep.TheVariants.{Join}
use Rattle.vms_group_core.specs.declared.trees.Tree.{Tree}
use Rattle.vms_group_core.specs.Own.{carried, carried_up}
use Rattle.vms_group_core.specs.Steps.{role}
use Rattle.vms_group_core.specs.Totals.{spent}
use Rattle.vms_group_core.specs.Trees.{IsGroup, IsTreeCpu}
use Rattle.vms_group_core.specs.Words.{value_at, up_at, pending_at}

-- a pass that owns a CPU changes a group, within the volume of that CPU
pub record Changes (tree : Tree) (h : List (Event GroupStep)) (p g : ℕ) (a : ℤ) : Type 0 where
  pub cpu : CpuId
  pub owns : owner_in role h p ≡ Some cpu
  pub group : IsGroup tree g
  pub affordable : spent h cpu.number g + unsigned_abs a ≤ most_volume

-- what is pending from a CPU is taken, by any pass
pub record TakesPending (tree : Tree) (s : GroupState) (c : CpuId) (g : ℕ) (v : ℤ) : Type 0 where
  pub cpu : IsTreeCpu tree c.number
  pub group : IsGroup tree g
  pub value : pending_at tree s c.number g ≡ v

-- what is pending from the children is taken, by any pass
pub record TakesUp (tree : Tree) (s : GroupState) (g : ℕ) (v : ℤ) : Type 0 where
  pub group : IsGroup tree g
  pub value : up_at s g ≡ v

-- all that the pass carries for a group's value is added to it
pub record AddsToValue (tree : Tree) (h : List (Event GroupStep)) (p g : ℕ) (a : ℤ) : Type 0 where
  pub group : IsGroup tree g
  pub carries : carried g (own h p) ≡ a
  pub some : a ≢ pos 0

-- an amount that the pass carries from one child is added to what is pending for the parent
pub record AddsUp (tree : Tree) (h : List (Event GroupStep)) (p g : ℕ) (a : ℤ) : Type 0 where
  pub group : IsGroup tree g
  pub carries : Contains (carried_up tree g (own h p)) a
  pub some : a ≢ pos 0

-- a value is loaded, by any pass
pub record FindsValue (tree : Tree) (s : GroupState) (g : ℕ) (v : ℤ) : Type 0 where
  pub group : IsGroup tree g
  pub value : value_at s g ≡ v

-- the condition of each kind of step; that of a Split and a Join is in the rules of the passes
abbrev pub Meets : GroupFacts → List (Event GroupStep) → GroupState → ℕ → GroupStep → Type 0
Meets facts h s p (AddP g a) = Changes facts.tree h p g a
Meets facts h s p (TakeP c g v) = TakesPending facts.tree s c g v
Meets facts h s p (TakeU g v) = TakesUp facts.tree s g v
Meets facts h s p (AddV g a) = AddsToValue facts.tree h p g a
Meets facts h s p (AddU g a) = AddsUp facts.tree h p g a
Meets facts h s p (LoadV g v) = FindsValue facts.tree s g v
Meets facts h s p (Split q who) = Unit {0}
Meets facts h s p (Join q) = Unit {0}
