-- A pass makes the steps of a call while others act: what it has made, what it spends, and that it may make the next.
use Rattle.std.specs.Prelude.{◌≡◌, ℕ, ◌+◌, List, Option, Some, All}
use Rattle.vms_history.specs.Common.{CpuId, own, after, owner_in}
use Rattle.vms_history.specs.PassSteps as making
use Rattle.vms_group_core.specs.declared.call_values.GroupCall.{GroupCall}
use Rattle.vms_group_core.specs.declared.call_values.GroupCall.TheVariants.{Change, Flush, Value}
use Rattle.vms_group_core.specs.declared.steps.GroupFacts.{GroupFacts}
use Rattle.vms_group_core.specs.declared.steps.GroupStep.{GroupStep}
use Rattle.vms_group_core.specs.declared.steps.GroupStep.TheVariants.{TakeP, TakeU, LoadV}
use Rattle.vms_group_core.specs.declared.trees.Tree.{Tree}
use Rattle.vms_group_core.specs.Conditions.{Changes}
use Rattle.vms_group_core.specs.Histories.{groups, History, state_after}
use Rattle.vms_group_core.specs.Own.{carried, carried_up, CarriesNothing}
use Rattle.vms_group_core.specs.Steps.{role}
use Rattle.vms_group_core.specs.Totals.{spent, spent_by}
use Rattle.vms_group_core.specs.Trees.{IsGroup}
use Rattle.vms_group_core.specs.Words.{value_at, up_at, pending_at}

-- pass p lives and has made these steps since the earlier history, the oldest first, whatever others did in between
abbrev pub HasMade : GroupFacts → History → History → ℕ → List GroupStep → Type 0
HasMade facts later earlier p steps = making.HasMade groups facts later earlier p steps

-- a take or a load tells the amount that stands when it is made
abbrev pub Tells : GroupFacts → History → ℕ → GroupStep → Type 0
Tells facts h p (TakeP c g v) = pending_at facts.tree (state_after facts h) c.number g ≡ v
Tells facts h p (TakeU g v) = up_at (state_after facts h) g ≡ v
Tells facts h p (LoadV g v) = value_at (state_after facts h) g ≡ v
Tells facts h p _ = Unit {0}

-- from this history on pass p may make these steps: once it has made some of them, and whatever others did in between,
-- the next one may be made if it tells what stands, and the history with it is legal
abbrev pub MayMake : GroupFacts → ℕ → History → List GroupStep → Type 0
MayMake facts p earlier steps = making.MayMake groups Tells facts p earlier steps

-- a pass that carries nothing may flush any group
pub record Flushes (facts : GroupFacts) (h : History) (p g : ℕ) : Type 0 where
  pub group : IsGroup facts.tree g
  pub nothing : CarriesNothing facts.tree (own h p)

-- where pass p may make a call: the owner of a CPU may change a group within the CPU's volume, and every pass may flush
-- a group or read its value
abbrev pub MayCall : GroupFacts → History → ℕ → GroupCall → Type 0
MayCall facts h p (Change g a) = Changes facts.tree h p g a
MayCall facts h p (Flush g) = Flushes facts h p g
MayCall facts h p (Value g) = IsGroup facts.tree g

-- steps of a call leave their caller carrying what it carried before
pub record CarrySame (tree : Tree) (p g : ℕ) (steps : List GroupStep) (h : History) : Type 0 where
  pub value : carried g (after p steps h) ≡ carried g h
  pub up : carried_up tree g (after p steps h) ≡ carried_up tree g h

abbrev pub CarryAsBefore : Tree → List GroupStep → Type 0
CarryAsBefore tree steps = (p g : ℕ) (h : History) → CarrySame tree p g steps h

-- no step of a call spends anything of a CPU's volume, whoever makes it
abbrev pub SpendNothing : List GroupStep → Type 0
SpendNothing steps = (who : Option CpuId) (c g : ℕ) → All (λ step. spent_by who c g step ≡ 0) steps

-- what the CPU of pass p has spent on each group in the later history is this much more than in the earlier one
abbrev pub SpendsSince : History → History → ℕ → (ℕ → ℕ) → Type 0
SpendsSince later earlier p more = (c : CpuId) (g : ℕ) → owner_in role earlier p ≡ Some c →
    spent later c.number g ≡ spent earlier c.number g + more g

-- what the CPU of pass p has spent on each group is what it was
abbrev pub KeepsSpending : History → History → ℕ → Type 0
KeepsSpending later earlier p = (c : CpuId) (g : ℕ) → owner_in role earlier p ≡ Some c →
    spent later c.number g ≡ spent earlier c.number g
