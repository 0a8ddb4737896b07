-- What a lane's pass makes of its lines while others act.
use Rattle.std.specs.Prelude.{◌≡◌, ℕ, ◌+◌, ◌<◌, ◌≤◌, List, All, length, slice_index, slice_index_or, Result, IfOk, ℤ}
use Rattle.vms_base.specs.declared.failures.Memory.{Memory}
use Rattle.vms_history.specs.Common.{most_volume}
use Rattle.vms_group_core.specs.declared.call_values.GroupAnswer.{GroupAnswer}
use Rattle.vms_group_core.specs.declared.call_values.GroupCall.{GroupCall}
use Rattle.vms_group_core.specs.declared.steps.GroupFacts.{GroupFacts}
use Rattle.vms_group_core.specs.declared.steps.GroupStep.{GroupStep}
use Rattle.vms_group_core.specs.declared.trees.Tree.{Tree}
use Rattle.vms_group_core.specs.Common.{IsGroup, IsGroupCall, group_count, groups}
use Rattle.vms_group.specs.Common.{CpuPass}
use Rattle.vms_seats.specs.Common.{IsFrom, Made, Pass, Shared}
use Rattle.vms_group_phase.specs.declared.items.GroupItem.{GroupItem}
use Rattle.vms_group_phase.specs.declared.jobs.LaneDone.{LaneDone}
use Rattle.vms_group_phase.specs.declared.jobs.LaneJob.{LaneJob}
use Rattle.vms_group_phase.specs.Lines.{group_of, lane_lines, spent_by_lines}
use Rattle.vms_group_phase.specs.Phases.{AreOfLines, values_among}

-- volumes by group leave room for spending this much more on each
abbrev pub HasRoom : Tree → (ℕ → ℕ) → List ℕ → Type 0
HasRoom tree more volume = (g : ℕ) → IsGroup tree g → slice_index volume g + more g ≤ most_volume

-- volumes by group have grown by this much
pub record HasGrown (tree : Tree) (more : ℕ → ℕ) (new old : List ℕ) : Type 0 where
  pub one_each : length new ≡ group_count tree
  pub each : (g : ℕ) → IsGroup tree g → slice_index new g ≡ slice_index old g + more g

-- a pass made a call, which answers this, whatever others did in between
pub record MakesCall (facts : GroupFacts) (call : GroupCall) (answer : GroupAnswer)
    (new old : Pass GroupFacts GroupStep) : Type 0 where
  pub steps : List GroupStep
  pub is_call : IsGroupCall facts call steps answer
  pub made : Made groups new old steps

-- a pass made lines, which answer with these values where they ask for one, whatever others did in between
pub record RunsLines (facts : GroupFacts) (lines : List GroupItem) (values : List ℤ) (new old : CpuPass)
    : Type 0 where
  pub steps : List GroupStep
  pub answers : List GroupAnswer
  pub of_lines : AreOfLines facts lines answers steps
  pub told : values ≡ values_among answers
  pub made : Made groups new.pass old.pass steps
  pub grown : HasGrown facts.tree (spent_by_lines lines) new.volume old.volume

-- the lines of a job's lane may be made: the lines of the phase name groups of the tree, and the volumes of the pass
-- leave room for those of the lane
pub record MayRunJob (table : Shared GroupFacts) (job : LaneJob) : Type 0 where
  pub of : IsFrom job.pass.pass table
  pub named : All (λ item. IsGroup table.facts.tree (group_of item.call)) job.items.now
  pub room : HasRoom table.facts.tree (spent_by_lines (lane_lines job.cpu.number job.items.now)) job.pass.volume

-- a job was run: its pass made the lines of its lane, which answer with these values
pub record HasRunJob (table : Shared GroupFacts) (job : LaneJob) (done : LaneDone) : Type 0 where
  pub cpu : done.cpu ≡ job.cpu
  pub lines : RunsLines table.facts (lane_lines job.cpu.number job.items.now) done.values.items done.pass job.pass

-- jobs were run: there is a result for each, in the same order, unless no memory was found for it
pub record HaveRunJobs (table : Shared GroupFacts) (jobs : List LaneJob) (results : List (Result LaneDone Memory))
    : Type 0 where
  pub one_each : length results ≡ length jobs
  pub each : (i : ℕ) (job : LaneJob) (result : Result LaneDone Memory) → i < length jobs →
      IfOk (slice_index_or results i result) (HasRunJob table (slice_index_or jobs i job))
