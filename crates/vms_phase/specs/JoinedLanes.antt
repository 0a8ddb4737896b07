-- The lanes of a phase that have run, and how far the main passes have ended them.
use Rattle.std.specs.Prelude.{◌≡◌, ℕ, suc, List, [], ◌∷◌, ◌++◌, map, length, Option, Some, None, Result, IfOk, All}
use Rattle.std.specs.Prelude.{if◌then◌else◌}
use Rattle.vms_world.specs.Common.{Memory, Header, ZoneSize, CpuVolumes, is_lane, lane_items, Item, Lane}
use Rattle.vms_world.specs.Common.{TableHistories}
use Rattle.vms_tables.specs.declared.tables.Tables.{Tables}
use Rattle.vms_tables.specs.Common.{AreFrom, TablePasses}
use Rattle.vms_world.specs.declared.worlds.World.{World}
use Rattle.vms_answers.specs.Common.{NumberedAnswer, answer_of_kept}
use Rattle.vms_lane.specs.declared.passes.LanePasses.{LanePasses}
use Rattle.vms_lane.specs.declared.passes.LanePasses.TheVariants.{Cpu as OfCpu, Control as OfControl}
use Rattle.vms_lane.specs.Common.{AreReadyFor, HaveSpentAll, passes_in, MakeLines, acts_in}
use Rattle.vms_phase.specs.declared.jobs.LaneDone.{LaneDone}
use Rattle.vms_phase.specs.declared.lane_joins.JoinedLane.{JoinedLane}
use Rattle.vms_phase.specs.Jobs.{HaveVolumesFor}
use Rattle.vms_phase.specs.LanePasses.{AreFresh, AreWhole, HaveEnded}

-- a lane was run in a phase of these lines from a world: its passes, which under this number had made no step and had
-- the volumes of the lane's CPU in that world, made its lines, which answered this, and may end
pub record HasRunLane (header : Header) (pressure normal : ZoneSize → ℕ → ℕ → Type 0) (tables : Tables) (w : World)
    (items : List Item) (number : ℕ) (lane : Lane) (done : LaneDone) : Type 0 where
  pub first : LanePasses
  pub is : done.lane ≡ lane
  pub fresh : AreFresh number (passes_in first)
  pub lines : MakeLines header pressure normal w lane (lane_items lane items) (passes_in done.passes) (passes_in first)
      (map answer_of_kept done.answers.items)
  pub volumes : HaveVolumesFor header w lane first
  pub spent : HaveSpentAll (acts_in (lane_items lane items)) done.passes first
  pub ready : AreReadyFor tables lane done.passes

-- the results of lanes, in the same order, unless no memory was found for one: the first had passes of this number, and
-- each further one of the next
abbrev pub HaveRunLanes : Header → (ZoneSize → ℕ → ℕ → Type 0) → (ZoneSize → ℕ → ℕ → Type 0) → Tables → World
    → List Item → ℕ → List Lane → List (Result LaneDone Memory) → Type 0
HaveRunLanes header pressure normal tables w items number [] [] = Unit {0}
HaveRunLanes header pressure normal tables w items number (lane ∷ lanes) (result ∷ results) =
    IfOk result (HasRunLane header pressure normal tables w items number lane)
    × HaveRunLanes header pressure normal tables w items (suc number) lanes results
HaveRunLanes header pressure normal tables w items number _ _ = ⊥

-- the volumes that passes have if they own a CPU
abbrev pub HasVolumesOf : LanePasses → Option CpuVolumes → Type 0
HasVolumesOf (OfCpu passes) (Some volumes) = (volumes.page ≡ passes.page.volume)
    × (volumes.event ≡ passes.event.volume) × (volumes.pcpu ≡ passes.pcpu.volume)
HasVolumesOf (OfControl passes) None = Unit {0}
HasVolumesOf _ _ = ⊥

-- a lane whose passes have ended: what the main passes have seen has all the steps of its lines, which answered this,
-- and these are the volumes that its passes had then
pub record IsJoinedLane (header : Header) (pressure normal : ZoneSize → ℕ → ℕ → Type 0) (w : World)
    (items : List Item) (mains : TablePasses) (number : ℕ) (lane : Lane) (joined : JoinedLane) : Type 0 where
  pub first : LanePasses
  pub last : LanePasses
  pub is : joined.lane ≡ lane
  pub whole : AreWhole number (passes_in first) (passes_in last) mains
  pub lines : MakeLines header pressure normal w lane (lane_items lane items) (passes_in last) (passes_in first)
      (map answer_of_kept joined.answers.items)
  pub volumes : HaveVolumesFor header w lane first
  pub spent : HaveSpentAll (acts_in (lane_items lane items)) last first
  pub left : HasVolumesOf last joined.volumes

-- such lanes, in the same order
abbrev pub AreJoinedLanes : Header → (ZoneSize → ℕ → ℕ → Type 0) → (ZoneSize → ℕ → ℕ → Type 0) → World → List Item
    → TablePasses → ℕ → List Lane → List JoinedLane → Type 0
AreJoinedLanes header pressure normal w items mains number [] [] = Unit {0}
AreJoinedLanes header pressure normal w items mains number (lane ∷ lanes) (joined ∷ more) =
    IsJoinedLane header pressure normal w items mains number lane joined
    × AreJoinedLanes header pressure normal w items mains (suc number) lanes more
AreJoinedLanes header pressure normal w items mains number _ _ = ⊥

-- the main passes of these tables have ended the first of these lanes, and these are the results of the others
pub record HaveJoinedLanes (header : Header) (pressure normal : ZoneSize → ℕ → ℕ → Type 0) (tables : Tables)
    (w : World) (items : List Item) (lanes : List Lane) (mains : TablePasses) (joined : List JoinedLane)
    (rest : List (Result LaneDone Memory)) : Type 0 where
  pub over : List Lane
  pub left : List Lane
  pub parts : lanes ≡ over ++ left
  pub of : AreFrom tables mains
  pub ended : HaveEnded lanes (length over) mains
  pub each : AreJoinedLanes header pressure normal w items mains 1 over joined
  pub results : HaveRunLanes header pressure normal tables w items (suc (length over)) left rest

-- what each of these lanes was told is what its lines answered
abbrev pub AreTold : (Lane → List NumberedAnswer) → List JoinedLane → Type 0
AreTold told joined = All (λ one. told one.lane ≡ map answer_of_kept one.answers.items) joined

-- what the lines of a lane answered, if it is among these
abbrev pub told_of : List JoinedLane → Lane → List NumberedAnswer
told_of [] lane = []
told_of (one ∷ more) lane =
    if is_lane one.lane lane then map answer_of_kept one.answers.items else told_of more lane

-- the histories that the main passes have seen
abbrev pub seen_by : TablePasses → TableHistories
seen_by mains = record { pages = mains.pages.seen; events = mains.events.seen; counters = mains.counters.seen }
