-- What contracts see of a pass that owns a CPU.
use Rattle.std.specs.Prelude.{◌≡◌, ℕ, ◌+◌, ◌≤◌, List, length, slice_index, slice_set, Option, Some, None, refl}
use Rattle.vms_history.specs.Common.{CpuId, EventId, most_volume}
use Rattle.vms_event_core.specs.declared.call_values.EventCall.{EventCall}
use Rattle.vms_event_core.specs.declared.call_values.EventCall.TheVariants.{Count}
use Rattle.vms_event_core.specs.declared.steps.EventFacts.{EventFacts}
use Rattle.vms_event_core.specs.declared.steps.EventStep.{EventStep}
use Rattle.vms_event_core.specs.declared.steps.EventStep.TheVariants.{LoadE}
use Rattle.vms_event_core.specs.Common.{events, History, spent, spent_by, IsEvent, event_count}
use Rattle.vms_seats.specs.Common.{Pass, IsLive}

-- the pass, and what its CPU has counted of each event since the run began
pub record CpuPass : Type 0 where
  pub pass : Pass EventFacts EventStep
  pub volume : List ℕ

-- the volumes are those of all events, and hold all that the CPU has counted in the history
pub record HoldsSpending (h : History) (cpu : ℕ) (volume : List ℕ) : Type 0 where
  pub one_each : length volume ≡ event_count
  pub spent_within : (k : ℕ) → IsEvent k → spent h cpu k ≤ slice_index volume k

-- the volumes have room for a call
abbrev pub HasRoomFor : EventCall → List ℕ → Type 0
HasRoomFor (Count k n) volume = slice_index volume k.number + n ≤ most_volume
HasRoomFor _ volume = Unit {0}

-- the volumes after a call: a count grows that of its event
abbrev pub volume_after : EventCall → List ℕ → List ℕ
volume_after (Count k n) volume = slice_set volume k.number (slice_index volume k.number + n)
volume_after _ volume = volume

-- a pass that lives and owns this CPU, and volumes that cover
pub record IsCpuPass (pass : Pass EventFacts EventStep) (cpu : CpuId) (volume : List ℕ) : Type 0 where
  pub live : IsLive events pass
  pub owns : pass.cpu ≡ Some cpu
  pub covers : HoldsSpending pass.seen cpu.number volume

-- a step that spends nothing of a CPU's volume, whoever makes it
abbrev pub SpendsNothing : EventStep → Type 0
SpendsNothing step = (who : Option CpuId) (c k : ℕ) → spent_by who c k step ≡ 0

pub loads-spend_nothing : (c : CpuId) (k : EventId) (v : ℕ) → SpendsNothing (LoadE c k v)
loads-spend_nothing c k v (Some d) e l = refl
loads-spend_nothing c k v None e l = refl
