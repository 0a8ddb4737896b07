-- The world that histories leave, with volumes that go by what CPUs spend in them and not by a text.
use Rattle.std.specs.Prelude.{ℕ, ◌≤◌, length}
use Rattle.vms_world.specs.Common.{Header, IsCounter, IsCpu, counter_count, settled, grown, IsEvent, event_count}
use Rattle.vms_world.specs.Common.{IsPcpu, numbers_after, listed_by_cpu, AreVolumes, TableHistories, page_facts}
use Rattle.vms_world.specs.Common.{event_facts, pcpu_facts, page_volume, event_volume, pcpu_volume, volume_in}
use Rattle.vms_core.specs.Pages as pages
use Rattle.vms_event_core.specs.Endings as event_ends
use Rattle.vms_event_core.specs.Events as events
use Rattle.vms_pcpu_core.specs.Endings as pcpu_ends
use Rattle.vms_world.specs.declared.worlds.Volumes.{Volumes}
use Rattle.vms_world.specs.declared.worlds.World.{World}

-- the world that these histories leave, with these volumes
abbrev pub left_with : Header → World → TableHistories → Volumes → World
left_with header w hs v = record {
  pages = settled (pages.state_after (page_facts header w) hs.pages);
  events = events.state_after (event_facts header w) hs.events;
  counters = numbers_after (pcpu_facts header w) hs.counters;
  volumes = v;
}

-- a volume for each CPU and each thing, none larger than a CPU may change a thing by, and each at least what the CPU
-- has spent once these histories are over
pub record CoverSpending (header : Header) (w : World) (hs : TableHistories) (v : Volumes) : Type 0 where
  pub pages : AreVolumes header.layout (counter_count header.layout) v.pages
  pub events : AreVolumes header.layout event_count v.events
  pub counters : AreVolumes header.layout (length header.counters) v.counters
  pub on_pages : (c k : ℕ) → IsCpu header.layout c → IsCounter header.layout k →
      grown (page_volume header w) hs.pages c k ≤ volume_in v.pages (counter_count header.layout) c k
  pub on_events : (c k : ℕ) → IsCpu header.layout c → IsEvent k →
      event_ends.spent_by_now (event_volume w) hs.events c k ≤ volume_in v.events event_count c k
  pub on_counters : (c j : ℕ) → IsCpu header.layout c → IsPcpu (pcpu_facts header w) j →
      pcpu_ends.spent_by_now (pcpu_volume header w) hs.counters c j
      ≤ volume_in v.counters (length header.counters) c j

-- the least such volumes: what each CPU has spent
abbrev pub spent_volumes : Header → World → TableHistories → Volumes
spent_volumes header w hs = record {
  pages = listed_by_cpu (grown (page_volume header w) hs.pages) header.layout.cpus (counter_count header.layout);
  events = listed_by_cpu (event_ends.spent_by_now (event_volume w) hs.events) header.layout.cpus event_count;
  counters = listed_by_cpu (pcpu_ends.spent_by_now (pcpu_volume header w) hs.counters) header.layout.cpus
      (length header.counters);
}
