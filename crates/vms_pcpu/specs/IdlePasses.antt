-- What contracts see of passes between two calls, and which steps a call has made.
use Rattle.std.specs.Prelude.{◌≡◌, ℕ, ◌≤◌, List, length, slice_index, Some}
use Rattle.vms_history.specs.Common.{CpuId, own}
use Rattle.vms_pcpu_core.specs.declared.steps.PcpuFacts.{PcpuFacts}
use Rattle.vms_pcpu_core.specs.declared.steps.PcpuStep.{PcpuStep}
use Rattle.vms_pcpu_core.specs.Common.{percpu, History, IsIdle, IsPcpu, counters_of, spent}
use Rattle.vms_seats.specs.Common.{Pass, IsLive, Made}

-- a pass that owns a CPU, and what its CPU has changed each counter by since the run began, in absolute sum
pub record CpuPass : Type 0 where
  pub pass : Pass PcpuFacts PcpuStep
  pub volume : List ℕ

-- there is a volume for each counter, which holds what the CPU has spent in the history
pub record HoldsSpending (facts : PcpuFacts) (h : History) (cpu : ℕ) (volume : List ℕ) : Type 0 where
  pub one_each : length volume ≡ counters_of facts.base
  pub spent_within : (j : ℕ) → IsPcpu facts j → spent h cpu j ≤ slice_index volume j

-- a pass that lives, holds no lock and carries nothing
pub record IsReady (pass : Pass PcpuFacts PcpuStep) : Type 0 where
  pub live : IsLive percpu pass
  pub idle : IsIdle (own pass.seen pass.number)

-- such a pass that owns this CPU, and volumes that hold what it spent
pub record IsCpuPass (pass : Pass PcpuFacts PcpuStep) (cpu : CpuId) (volume : List ℕ) : Type 0 where
  pub ready : IsReady pass
  pub owns : pass.cpu ≡ Some cpu
  pub holds : HoldsSpending pass.facts pass.seen cpu.number volume

-- the pass has made the steps of a call, which may depend on the CPU that it owns
pub record MakesCall (new old : Pass PcpuFacts PcpuStep) (IsCall : CpuId → List PcpuStep → Type 0) : Type 0 where
  pub cpu : CpuId
  pub owns : old.cpu ≡ Some cpu
  pub steps : List PcpuStep
  pub is_call : IsCall cpu steps
  pub made : Made percpu new old steps
