-- The volumes after the lines of a phase: those of the world before it, and what the lines spend by their text.
use Rattle.std.specs.Prelude.{ℕ, ◌+◌, ◌≤◌, List, length, map}
use Rattle.vms_calls.specs.Common.{Header, IsCounter, IsCpu, counter_count, most_volume}
use Rattle.vms_event_core.specs.Common.{IsEvent, event_count}
use Rattle.vms_pcpu_core.specs.Common.{IsPcpu}
use Rattle.vms_text.specs.declared.acts.Item.{Item}
use Rattle.vms_script.specs.Common.{line_of, spent_on_counter, spent_on_event, spent_on_pcpu, volume}
use Rattle.vms_world.specs.declared.worlds.Volumes.{Volumes}
use Rattle.vms_world.specs.declared.worlds.World.{World}
use Rattle.vms_world.specs.Listed.{listed_by_cpu}
use Rattle.vms_world.specs.Worlds.{event_volume, page_volume, pcpu_facts, pcpu_volume}

-- the volume of CPU c on page counter k after these lines: each line spends the absolute size of what it asks for. A
-- limited addition to a percpu counter does so also where it adds nothing
abbrev pub page_volume_after : Header → World → List Item → ℕ → ℕ → ℕ
page_volume_after header w items c k = page_volume header w c k + volume (spent_on_counter k) c (map line_of items)

-- the volume of CPU c on event k after these lines
abbrev pub event_volume_after : World → List Item → ℕ → ℕ → ℕ
event_volume_after w items c k = event_volume w c k + volume (spent_on_event k) c (map line_of items)

-- the volume of CPU c on percpu counter j after these lines
abbrev pub pcpu_volume_after : Header → World → List Item → ℕ → ℕ → ℕ
pcpu_volume_after header w items c j = pcpu_volume header w c j + volume (spent_on_pcpu j) c (map line_of items)

-- the volumes of all CPUs on all counters and events after these lines
abbrev pub volumes_after : Header → World → List Item → Volumes
volumes_after header w items = record {
  pages = listed_by_cpu (page_volume_after header w items) header.layout.cpus (counter_count header.layout);
  events = listed_by_cpu (event_volume_after w items) header.layout.cpus event_count;
  counters = listed_by_cpu (pcpu_volume_after header w items) header.layout.cpus (length header.counters);
}

-- none is larger than a CPU may change a thing by
pub record FitVolumes (header : Header) (w : World) (items : List Item) : Type 0 where
  pub pages : (c k : ℕ) → IsCpu header.layout c → IsCounter header.layout k →
      page_volume_after header w items c k ≤ most_volume
  pub events : (c k : ℕ) → IsCpu header.layout c → IsEvent k → event_volume_after w items c k ≤ most_volume
  pub counters : (c j : ℕ) → IsCpu header.layout c → IsPcpu (pcpu_facts header w) j →
      pcpu_volume_after header w items c j ≤ most_volume
