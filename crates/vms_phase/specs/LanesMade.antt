-- What the passes of the lanes of a phase have made, by histories that are closed.
use Rattle.std.specs.Prelude.{◌≡◌, ℕ, suc, ◌<◌, List, length}
use Rattle.vms_world.specs.Common.{Header, ZoneSize, own, settled, numbers_after, lane_items, Item, Lane, lane_at}
use Rattle.vms_world.specs.Common.{lanes_of, volumes_after, AreComplete, TableHistories, event_facts, page_facts}
use Rattle.vms_world.specs.Common.{pcpu_facts}
use Rattle.vms_core.specs.Pages as page_histories
use Rattle.vms_event_core.specs.Events as event_histories
use Rattle.vms_world.specs.declared.worlds.World.{World}
use Rattle.vms_file_order.specs.Common.{closing_of, opening_of, event_passes, page_passes, pcpu_passes}
use Rattle.vms_answers.specs.Common.{NumberedAnswer}
use Rattle.vms_tables.specs.Common.{TablePasses}
use Rattle.vms_lane.specs.Common.{MakeLines}
use Rattle.vms_phase.specs.BegunLanes.{HasAllSteps}

-- the passes of a lane, under this number in each table, made its lines, which answered this: as `first` they had made
-- no step, and the histories have all that they had made as `last`
pub record HasMadeLane (header : Header) (pressure normal : ZoneSize → ℕ → ℕ → Type 0) (w : World) (items : List Item)
    (hs : TableHistories) (number : ℕ) (lane : Lane) (answers : List NumberedAnswer) : Type 0 where
  pub first : TablePasses
  pub last : TablePasses
  pub lines : MakeLines header pressure normal w lane (lane_items lane items) last first answers
  pub pages : HasAllSteps number first.pages last.pages hs.pages
  pub events : HasAllSteps number first.events last.events hs.events
  pub counters : HasAllSteps number first.counters last.counters hs.counters

-- in each of these complete histories the main pass began a pass for each lane that has lines, and then ended them in
-- the same order; and the passes of each lane made its lines, which answered this
pub record AreMadeByLanes (header : Header) (pressure normal : ZoneSize → ℕ → ℕ → Type 0) (w : World)
    (items : List Item) (hs : TableHistories) (told : Lane → List NumberedAnswer) : Type 0 where
  pub complete : AreComplete header w hs
  pub pages : own hs.pages 0
      ≡ closing_of page_passes (lanes_of header.layout items) (opening_of page_passes (lanes_of header.layout items))
  pub events : own hs.events 0
      ≡ closing_of event_passes (lanes_of header.layout items) (opening_of event_passes (lanes_of header.layout items))
  pub counters : own hs.counters 0
      ≡ closing_of pcpu_passes (lanes_of header.layout items) (opening_of pcpu_passes (lanes_of header.layout items))
  pub lanes : (n : ℕ) → n < length (lanes_of header.layout items) →
      HasMadeLane header pressure normal w items hs (suc n) (lane_at (lanes_of header.layout items) n)
      (told (lane_at (lanes_of header.layout items) n))

-- a world in which these histories were closed: each table stands as its history leaves it, with nothing acknowledged
-- and nothing set, and the volumes have grown by what the lines spend
pub record IsClosedWorld (header : Header) (w : World) (items : List Item) (hs : TableHistories) (next : World) : Type 0
  where
    pub pages : next.pages ≡ settled (page_histories.state_after (page_facts header w) hs.pages)
    pub events : next.events ≡ event_histories.state_after (event_facts header w) hs.events
    pub counters : next.counters ≡ numbers_after (pcpu_facts header w) hs.counters
    pub volumes : next.volumes ≡ volumes_after header w items
