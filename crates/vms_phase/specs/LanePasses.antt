-- The passes of one lane in the three tables, as the main passes begin and end them.
use Rattle.std.specs.Prelude.{◌≡◌, ℕ, ◌<◌, false, List, length, slice_index_or, Option}
use Rattle.vms_world.specs.Common.{Header, CpuId, MayOwnCpu, IsCounter, counter_count, IsEvent, event_count, percpu}
use Rattle.vms_world.specs.Common.{Lane, is_among, owner_of, event_volume, page_volume, pcpu_volume}
use Rattle.vms_core.specs.declared.steps.Step.TheVariants as page_steps
use Rattle.vms_core.specs.Pages as page_histories
use Rattle.vms_event_core.specs.declared.steps.EventStep.TheVariants as event_steps
use Rattle.vms_event_core.specs.Events as event_histories
use Rattle.vms_pcpu_core.specs.declared.steps.PcpuStep.TheVariants as pcpu_steps
use Rattle.vms_seats.specs.Common.{HasBegun, HasEnded}
use Rattle.vms_world.specs.declared.worlds.World.{World}
use Rattle.vms_file_order.specs.Common.{StandOnce, event_passes, page_passes, pcpu_passes}
use Rattle.vms_tables.specs.declared.passes.CpuPasses.{CpuPasses}
use Rattle.vms_tables.specs.declared.tables.Tables.{Tables}
use Rattle.vms_tables.specs.Common.{AreFrom, TablePasses}
use Rattle.vms_phase.specs.BegunLanes.{HasBegunLanes, HasEndedLanes, IsFresh, HasAllSteps}

-- the main passes have begun the passes of these lanes in each table, in this order, and have made no other step
pub record HaveBegun (lanes : List Lane) (mains : TablePasses) : Type 0 where
  pub pages : HasBegunLanes page_histories.pages page_passes lanes mains.pages
  pub events : HasBegunLanes event_histories.events event_passes lanes mains.events
  pub counters : HasBegunLanes percpu pcpu_passes lanes mains.counters

-- and have ended the first n of them
pub record HaveEnded (lanes : List Lane) (n : ℕ) (mains : TablePasses) : Type 0 where
  pub pages : HasEndedLanes page_histories.pages page_passes lanes n mains.pages
  pub events : HasEndedLanes event_histories.events event_passes lanes n mains.events
  pub counters : HasEndedLanes percpu pcpu_passes lanes n mains.counters

-- the main passes of these tables have begun these lanes, each once, and may begin this one
pub record MayBeginLane (header : Header) (tables : Tables) (lanes : List Lane) (lane : Lane) (mains : TablePasses)
    : Type 0 where
  pub of : AreFrom tables mains
  pub begun : HaveBegun lanes mains
  pub once : StandOnce lanes
  pub apart : is_among lane lanes ≡ false
  pub online : MayOwnCpu header.layout tables.pages.facts.base.cpu (owner_of lane)

-- the main passes began these passes, which own this CPU or none
pub record BeginPasses (who : Option CpuId) (new old passes : TablePasses) : Type 0 where
  pub pages : HasBegun page_histories.pages page_steps.Split new.pages old.pages passes.pages who
  pub events : HasBegun event_histories.events event_steps.Split new.events old.events passes.events who
  pub counters : HasBegun percpu pcpu_steps.Split new.counters old.counters passes.counters who

-- the main passes ended these passes
pub record EndPasses (new old passes : TablePasses) : Type 0 where
  pub pages : HasEnded page_histories.pages page_steps.Join new.pages old.pages passes.pages
  pub events : HasEnded event_histories.events event_steps.Join new.events old.events passes.events
  pub counters : HasEnded percpu pcpu_steps.Join new.counters old.counters passes.counters

-- under this number they have made no step
pub record AreFresh (number : ℕ) (passes : TablePasses) : Type 0 where
  pub pages : IsFresh number passes.pages
  pub events : IsFresh number passes.events
  pub counters : IsFresh number passes.counters

-- the passes have this number in each table
pub record HaveNumber (number : ℕ) (passes : TablePasses) : Type 0 where
  pub pages : passes.pages.number ≡ number
  pub events : passes.events.number ≡ number
  pub counters : passes.counters.number ≡ number

-- under this number they had made no step as `first`, and what the main passes have seen has the steps that they had
-- made as `last`, and no others
pub record AreWhole (number : ℕ) (first last mains : TablePasses) : Type 0 where
  pub pages : HasAllSteps number first.pages last.pages mains.pages.seen
  pub events : HasAllSteps number first.events last.events mains.events.seen
  pub counters : HasAllSteps number first.counters last.counters mains.counters.seen

-- the volumes of the passes are those of CPU c in a world
pub record HaveVolumesOf (header : Header) (w : World) (c : ℕ) (passes : CpuPasses) : Type 0 where
  pub pages_each : length passes.page.volume ≡ counter_count header.layout
  pub pages : (k : ℕ) → IsCounter header.layout k →
      slice_index_or passes.page.volume k 0 ≡ page_volume header w c k
  pub events_each : length passes.event.volume ≡ event_count
  pub events : (k : ℕ) → IsEvent k → slice_index_or passes.event.volume k 0 ≡ event_volume w c k
  pub counters_each : length passes.pcpu.volume ≡ length header.counters
  pub counters : (j : ℕ) → j < length header.counters →
      slice_index_or passes.pcpu.volume j 0 ≡ pcpu_volume header w c j
