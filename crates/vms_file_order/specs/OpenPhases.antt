-- How far the lines of an open phase have come in the three tables.
use Rattle.std.specs.Prelude.{◌≡◌, ℕ, List}
use Rattle.vms_world.specs.Common.{Header, ZoneSize, after, State, settled, pages as page_table, EventState}
use Rattle.vms_world.specs.Common.{events as event_table, percpu as pcpu_table, LockedState, unlocked, HasWon, Item}
use Rattle.vms_world.specs.Common.{Lane, PageSteps, TableHistories, page_facts, event_facts, pcpu_facts}
use Rattle.vms_world.specs.declared.worlds.World.{World}
use Rattle.vms_file_order.specs.FileOrder.{Follow, GoesOnWithLine, StandsOpen}
use Rattle.vms_file_order.specs.LanePasses.{closing_of, opening_of, pass_of}
use Rattle.vms_file_order.specs.Tables.{page_passes, event_passes, pcpu_passes, event_makes, pcpu_makes, FindsLockFree}
use Rattle.vms_file_order.specs.Tables.{MeetsNobody}

-- a state of each table
pub record TableStates : Type 0 where
  pub pages : State
  pub events : EventState
  pub counters : LockedState

-- those that a phase from this world begins with
abbrev pub opening_states : Header → World → TableStates
opening_states header w = record { pages = w.pages; events = w.events; counters = unlocked (pcpu_facts header w) }

-- the opening of these lanes in each table, and their closing
abbrev pub openings_of : List Lane → TableHistories
openings_of lanes = record {
  pages = opening_of page_passes lanes;
  events = opening_of event_passes lanes;
  counters = opening_of pcpu_passes lanes;
}

abbrev pub closings_of : List Lane → TableHistories → TableHistories
closings_of lanes hs = record {
  pages = closing_of page_passes lanes hs.pages;
  events = closing_of event_passes lanes hs.events;
  counters = closing_of pcpu_passes lanes hs.counters;
}

-- these lines have come to these states in a phase from this world: in each history they follow one another, and it
-- stands while the passes of these lanes live
pub record IsOpenPhase (header : Header) (pressure normal : ZoneSize → ℕ → ℕ → Type 0) (w : World) (lanes : List Lane)
    (items : List Item) (hs : TableHistories) (now : TableStates) : Type 0 where
  pub page_lines : Follow page_passes (PageSteps header w.pages pressure normal) HasWon lanes items hs.pages
  pub event_lines : Follow event_passes (event_makes (event_facts header w)) MeetsNobody lanes
      items hs.events
  pub pcpu_lines : Follow pcpu_passes (pcpu_makes (pcpu_facts header w)) FindsLockFree lanes
      items hs.counters
  pub pages : StandsOpen page_table page_passes (page_facts header w) lanes hs.pages now.pages
  pub events : StandsOpen event_table event_passes (event_facts header w) lanes hs.events now.events
  pub counters : StandsOpen pcpu_table pcpu_passes (pcpu_facts header w) lanes hs.counters now.counters

-- a line goes on from these histories to these states
pub record GoesOnInTables (header : Header) (pressure normal : ZoneSize → ℕ → ℕ → Type 0) (w : World)
    (lanes : List Lane) (item : Item) (hs : TableHistories) (next : TableStates) : Type 0 where
  pub pages : GoesOnWithLine page_table (PageSteps header w.pages pressure normal) HasWon (page_facts header w) lanes
      item hs.pages next.pages
  pub events : GoesOnWithLine event_table (event_makes (event_facts header w)) MeetsNobody
      (event_facts header w) lanes item hs.events next.events
  pub counters : GoesOnWithLine pcpu_table (pcpu_makes (pcpu_facts header w)) FindsLockFree
      (pcpu_facts header w) lanes item hs.counters next.counters

-- the histories with the line
abbrev pub histories_with_line : (header : Header) (pressure normal : ZoneSize → ℕ → ℕ → Type 0) (w : World)
    (lanes : List Lane)
    (item : Item) (hs : TableHistories) (next : TableStates) →
    GoesOnInTables header pressure normal w lanes item hs next
    → TableHistories
histories_with_line header pressure normal w lanes item hs next line = record {
  pages = after (pass_of lanes item.lane) line.pages.steps hs.pages;
  events = after (pass_of lanes item.lane) line.events.steps hs.events;
  counters = after (pass_of lanes item.lane) line.counters.steps hs.counters;
}

-- a world is what these states make of a phase's end, beside its volumes
pub record EndsIn (next : World) (now : TableStates) : Type 0 where
  pub pages : next.pages ≡ settled now.pages
  pub events : next.events ≡ now.events
  pub counters : next.counters ≡ now.counters.numbers
