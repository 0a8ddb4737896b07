-- The lanes of a phase, made by threads that borrow nothing of it.
use Rattle.std.specs.Prelude.{ℕ, List, Result, IfOk}
use Rattle.vms_world.specs.Common.{IsHeader, IsThresholdRule, Item, Lane, Memory, ZoneSize, lane_items}
use Rattle.vms_tables.specs.Common.{AreTables}
use Rattle.vms_lane.specs.declared.passes.LanePasses.{LanePasses}
use Rattle.vms_phase.specs.declared.jobs.LaneDone.{LaneDone}
use Rattle.vms_phase.specs.declared.jobs.LaneJob.{LaneJob}
use Rattle.vms_phase.specs.Common.{HasRunJob, MayRunJob}
use Rattle.vms_standing_phase.specs.declared.shares.PhaseShare.{PhaseShare}

-- a lane that is to run, with what the lanes of its phase share
pub record StandingLane (N P : Type 0) : Type 0 where
  pub share : PhaseShare N P
  pub job : LaneJob

-- a lane with its passes, and with its lines among these
abbrev pub lane_job : Lane → LanePasses → List Item → LaneJob
lane_job lane passes items = record { lane = lane; passes = passes; lines = lane_items lane items }

module _ {N P : Type 0} where
  -- its lines may be made, and its rules tell thresholds
  pub record MayBeMade (normal_accepts : N → ZoneSize → ℕ → Type 0) (normal_answers : N → ZoneSize → ℕ → ℕ → Type 0)
      (pressure_accepts : P → ZoneSize → ℕ → Type 0) (pressure_answers : P → ZoneSize → ℕ → ℕ → Type 0)
      (one : StandingLane N P) : Type 0 where
    pub known : IsHeader one.share.header
    pub of : AreTables one.share.header one.share.tables
    pub may : MayRunJob one.share.header one.share.tables one.job
    pub normal : IsThresholdRule (normal_accepts one.share.normal) (normal_answers one.share.normal)
    pub pressure : IsThresholdRule (pressure_accepts one.share.pressure) (pressure_answers one.share.pressure)

  -- they were made by rules that answer this, unless no memory was found
  abbrev pub WasMade : (P → ZoneSize → ℕ → ℕ → Type 0) → (N → ZoneSize → ℕ → ℕ → Type 0) → StandingLane N P
      → Result LaneDone Memory → Type 0
  WasMade pressure normal one result = IfOk result (HasRunJob one.share.header (pressure one.share.pressure)
      (normal one.share.normal) one.share.tables one.job)
