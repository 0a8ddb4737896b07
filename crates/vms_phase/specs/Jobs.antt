-- The lanes that a phase runs, each with its passes and its lines.
use Rattle.std.specs.Prelude.{◌≡◌, ℕ, suc, ◌<◌, List, [], ◌∷◌, All, map, length, slice_index_or, Result, IfOk}
use Rattle.vms_world.specs.Common.{Memory, Header, ZoneSize, IsActOf, Fits, lane_items, Start, Item, Lane, Cpu, Control}
use Rattle.vms_file_order.specs.Common.{IsStartOf}
use Rattle.vms_tables.specs.declared.tables.Tables.{Tables}
use Rattle.vms_tables.specs.Common.{AreFrom, TablePasses, world_of}
use Rattle.vms_world.specs.declared.worlds.World.{World}
use Rattle.vms_answers.specs.Common.{answer_of_kept}
use Rattle.vms_lane.specs.declared.passes.LanePasses.{LanePasses}
use Rattle.vms_lane.specs.declared.passes.LanePasses.TheVariants.{Cpu as OfCpu, Control as OfControl}
use Rattle.vms_lane.specs.Common.{AreReadyFor, HaveSpentAll, MayMakeActs, passes_in, MakeLines, acts_in}
use Rattle.vms_phase.specs.declared.jobs.LaneDone.{LaneDone}
use Rattle.vms_phase.specs.declared.jobs.LaneJob.{LaneJob}
use Rattle.vms_phase.specs.declared.plans.Plan.{Plan}
use Rattle.vms_phase.specs.LanePasses.{AreFresh, HaveBegun, HaveVolumesOf}

-- the volumes that the passes of a lane have, if it is of a CPU, are those that the CPU has in a world
abbrev pub HaveVolumesFor : Header → World → Lane → LanePasses → Type 0
HaveVolumesFor header w (Cpu c) (OfCpu passes) = HaveVolumesOf header w c.number passes
HaveVolumesFor header w Control (OfControl passes) = Unit {0}
HaveVolumesFor header w _ _ = ⊥

-- the job of a lane in a phase of these lines: its passes, under this number in each table, have made no step, may make
-- a line of the lane, and have the volumes of the lane's CPU in the world of the tables
pub record IsJob (header : Header) (tables : Tables) (w : World) (items : List Item) (number : ℕ) (lane : Lane)
    (job : LaneJob) : Type 0 where
  pub is : job.lane ≡ lane
  pub lines : job.lines ≡ lane_items lane items
  pub fresh : AreFresh number (passes_in job.passes)
  pub ready : AreReadyFor tables lane job.passes
  pub volumes : HaveVolumesFor header w lane job.passes

-- the jobs of lanes, in the same order: the first has passes of this number, and each further one of the next
abbrev pub AreJobs : Header → Tables → World → List Item → ℕ → List Lane → List LaneJob → Type 0
AreJobs header tables w items number [] [] = Unit {0}
AreJobs header tables w items number (lane ∷ lanes) (job ∷ jobs) =
    IsJob header tables w items number lane job × AreJobs header tables w items (suc number) lanes jobs
AreJobs header tables w items number _ _ = ⊥

-- the lines of a job may be made: they are of its lane, whose passes may make them all
pub record MayRunJob (header : Header) (tables : Tables) (job : LaneJob) : Type 0 where
  pub acts : All (λ item. IsActOf header job.lane item.act) job.lines
  pub ready : AreReadyFor tables job.lane job.passes
  pub may : MayMakeActs tables (acts_in job.lines) job.passes

-- the main passes of these tables have begun these lanes, and these are their jobs, of which each may be run
pub record HaveBegunJobs (header : Header) (tables : Tables) (w : World) (items : List Item) (lanes : List Lane)
    (mains : TablePasses) (jobs : List LaneJob) : Type 0 where
  pub of : AreFrom tables mains
  pub begun : HaveBegun lanes mains
  pub each : AreJobs header tables w items 1 lanes jobs
  pub may : All (MayRunJob header tables) jobs

-- a job was run: its passes made its lines, which answer this, and may end
pub record HasRunJob (header : Header) (pressure normal : ZoneSize → ℕ → ℕ → Type 0) (tables : Tables)
    (job : LaneJob) (done : LaneDone) : Type 0 where
  pub lane : done.lane ≡ job.lane
  pub lines : MakeLines header pressure normal (world_of tables) job.lane job.lines (passes_in done.passes)
      (passes_in job.passes) (map answer_of_kept done.answers.items)
  pub spent : HaveSpentAll (acts_in job.lines) done.passes job.passes
  pub ready : AreReadyFor tables job.lane done.passes

-- jobs were run: there is a result for each, in the same order, unless no memory was found for it
pub record HaveRunJobs (header : Header) (pressure normal : ZoneSize → ℕ → ℕ → Type 0) (tables : Tables)
    (jobs : List LaneJob) (results : List (Result LaneDone Memory)) : Type 0 where
  pub one_each : length results ≡ length jobs
  pub each : (i : ℕ) (job : LaneJob) (result : Result LaneDone Memory) → i < length jobs →
      IfOk (slice_index_or results i result) (HasRunJob header pressure normal tables (slice_index_or jobs i job))

-- the lines of a plan fit a start of its world
abbrev pub MayStart : Plan → Type 0
MayStart plan = (start : Start) × IsStartOf plan.header.now start plan.world.now × Fits plan.header.now start
    plan.lines.now

-- the main passes have begun these lanes of a plan, and these are their jobs
abbrev pub HaveBegunOf : Plan → List Lane → TablePasses → List LaneJob → Type 0
HaveBegunOf plan = HaveBegunJobs plan.header.now plan.tables.now plan.world.now plan.lines.now
