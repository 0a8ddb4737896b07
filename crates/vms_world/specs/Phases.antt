-- The world that the histories of a phase leave.
use Rattle.std.specs.Prelude.{◌≡◌, ℕ, ◌≤◌, pos, List, map}
use Rattle.vms_calls.specs.Common.{Header, Absent, IsCpu, settled, cpu_at, grown}
use Rattle.vms_core.specs.Ends as ends
use Rattle.vms_core.specs.Pages as pages
use Rattle.vms_core.specs.Totals as page_totals
use Rattle.vms_event_core.specs.Endings as event_ends
use Rattle.vms_event_core.specs.Events as events
use Rattle.vms_event_core.specs.Totals as event_totals
use Rattle.vms_event_core.specs.Common.{IsEvent, word_at}
use Rattle.vms_pcpu_core.specs.Endings as pcpu_ends
use Rattle.vms_pcpu_core.specs.Histories as percpu
use Rattle.vms_pcpu_core.specs.Common.{numbers_after, IsPcpu, local_at}
use Rattle.vms_pcpu_core.specs.Totals as pcpu_totals
use Rattle.vms_text.specs.declared.acts.Item.{Item}
use Rattle.vms_script.specs.Common.{line_of, spent_on_counter, spent_on_event, spent_on_pcpu, volume}
use Rattle.vms_world.specs.declared.worlds.World.{World}
use Rattle.vms_world.specs.LineVolumes.{volumes_after}
use Rattle.vms_world.specs.Worlds.{page_facts, event_facts, pcpu_facts, page_volume, event_volume, pcpu_volume}

-- a history of each table, of the same phase
pub record TableHistories : Type 0 where
  pub pages : pages.History
  pub events : events.History
  pub counters : percpu.History

-- each is legal from the world's part on, and every pass has ended
pub record AreComplete (header : Header) (w : World) (hs : TableHistories) : Type 0 where
  pub pages : pages.IsComplete (page_facts header w) hs.pages
  pub events : events.IsComplete (event_facts header w) hs.events
  pub counters : pcpu_ends.IsComplete (pcpu_facts header w) hs.counters

-- the world after the histories of these lines: each table as its history leaves it, nothing acknowledged and nothing
-- set, and the volumes grown by what the lines spend
abbrev pub left_by : Header → World → List Item → TableHistories → World
left_by header w items hs = record {
  pages = settled (pages.state_after (page_facts header w) hs.pages);
  events = events.state_after (event_facts header w) hs.events;
  counters = numbers_after (pcpu_facts header w) hs.counters;
  volumes = volumes_after header w items;
}

-- what each CPU spends in these histories is the sum of the sizes of its lines; of a percpu counter it is at most that,
-- since a limited addition may add nothing
pub record SpendTheirLines (header : Header) (items : List Item) (hs : TableHistories) : Type 0 where
  pub pages : (c k : ℕ) → IsCpu header.layout c →
      page_totals.spent hs.pages c k ≡ volume (spent_on_counter k) c (map line_of items)
  pub events : (c k : ℕ) → IsCpu header.layout c →
      event_totals.spent hs.events c k ≡ volume (spent_on_event k) c (map line_of items)
  pub counters : (c j : ℕ) → IsCpu header.layout c →
      pcpu_totals.spent hs.counters c j ≤ volume (spent_on_pcpu j) c (map line_of items)

-- no CPU changes anything by more than it may, in all phases together
pub record StayWithinVolumes (header : Header) (w : World) (hs : TableHistories) : Type 0 where
  pub pages : ends.AreWithinVolumes header.layout (grown (page_volume header w) hs.pages)
  pub events : event_ends.StaysWithinVolumes (event_facts header w) (event_volume w) hs.events
  pub counters : pcpu_ends.StaysWithinVolumes (pcpu_facts header w) (pcpu_volume header w) hs.counters

-- a CPU that is absent in the end has nothing in the tables of events and of percpu counters: a burial folds all three
pub record LeavesNothing (header : Header) (w : World) : Type 0 where
  pub events : (c k : ℕ) → IsCpu header.layout c → cpu_at w.pages c ≡ Absent → IsEvent k → word_at w.events c k ≡ 0
  pub counters : (c j : ℕ) → IsCpu header.layout c → cpu_at w.pages c ≡ Absent → IsPcpu (pcpu_facts header w) j
      → local_at w.counters c j ≡ pos 0
