-- What contracts see of a pass that owns a CPU.
use Rattle.std.specs.Prelude.{◌≡◌, ℕ, ◌≤◌, List, length, slice_index, Some}
use Rattle.vms_history.specs.Common.{CpuId, own}
use Rattle.vms_group_core.specs.declared.steps.GroupFacts.{GroupFacts}
use Rattle.vms_group_core.specs.declared.steps.GroupStep.{GroupStep}
use Rattle.vms_group_core.specs.declared.trees.Tree.{Tree}
use Rattle.vms_group_core.specs.Common.{IsGroup, group_count, CarriesNothing, groups, History, spent}
use Rattle.vms_seats.specs.Common.{Pass, IsLive}

-- the pass, and what its CPU has changed each group by since the run began, in absolute sum
pub record CpuPass : Type 0 where
  pub pass : Pass GroupFacts GroupStep
  pub volume : List ℕ

-- the volumes are those of all groups, and hold all that the CPU has spent in the history
pub record HoldsSpending (tree : Tree) (h : History) (cpu : ℕ) (volume : List ℕ) : Type 0 where
  pub one_each : length volume ≡ group_count tree
  pub spent_within : (g : ℕ) → IsGroup tree g → spent h cpu g ≤ slice_index volume g

-- a pass that lives, owns this CPU and carries nothing, and volumes that cover
pub record IsCpuPass (pass : Pass GroupFacts GroupStep) (cpu : CpuId) (volume : List ℕ) : Type 0 where
  pub live : IsLive groups pass
  pub owns : pass.cpu ≡ Some cpu
  pub covers : HoldsSpending pass.facts.tree pass.seen cpu.number volume
  pub idle : CarriesNothing pass.facts.tree (own pass.seen pass.number)
