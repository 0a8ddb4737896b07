-- Numbers of one thread, whose locks are free before and after each call.
use Rattle.std.specs.Prelude.{false, List, replicate, Option, All}
use Rattle.vms_history.specs.Common.{CpuId, LeadsOn}
use Rattle.vms_pcpu_core.specs.declared.states.PcpuState.{PcpuState}
use Rattle.vms_pcpu_core.specs.declared.steps.PcpuStep.{PcpuStep}
use Rattle.vms_pcpu_core.specs.declared.steps.PcpuStep.TheVariants.{Missed}
use Rattle.vms_pcpu_core.specs.Common.{LockedState, counters_of}
use Rattle.vms_plain_pcpu.specs.StateSteps.{percpu_by_state}

-- the numbers under free locks
abbrev pub under_free_locks : PcpuState → LockedState
under_free_locks s = record { numbers = s; held = replicate (counters_of s) false }

-- a step finds no lock held
abbrev pub MissesNone : PcpuStep → Type 0
MissesNone (Missed j) = ⊥
MissesNone _ = Unit {0}

-- steps of a caller that owns `who`, the oldest first, lead from one state to another, and none finds a lock held
pub record LeadsAlone (who : Option CpuId) (steps : List PcpuStep) (s next : LockedState) : Type 0 where
  pub leads : LeadsOn percpu_by_state who steps s next
  pub unmissed : All MissesNone steps
