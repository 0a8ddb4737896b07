-- Volumes that count what the lines of an open phase spend.
use Rattle.std.specs.Prelude.{◌≡◌, ℕ, ◌*◌, ◌<◌, List, length}
use Rattle.vms_world.specs.Common.{Header, IsCounter, IsCpu, counter_count, IsEvent, event_count, Item}
use Rattle.vms_world.specs.Common.{event_volume_after, page_volume_after, pcpu_volume_after, volume_in}
use Rattle.vms_world.specs.declared.worlds.Volumes.{Volumes}
use Rattle.vms_world.specs.declared.worlds.World.{World}

-- there is a volume for each CPU and each thing: that of the world with which the phase began, and what the CPU's lines
-- so far spend
pub record CountVolumes (header : Header) (w : World) (items : List Item) (v : Volumes) : Type 0 where
  pub pages_each : length v.pages ≡ header.layout.cpus * counter_count header.layout
  pub pages : (c k : ℕ) → IsCpu header.layout c → IsCounter header.layout k →
      volume_in v.pages (counter_count header.layout) c k ≡ page_volume_after header w items c k
  pub events_each : length v.events ≡ header.layout.cpus * event_count
  pub events : (c k : ℕ) → IsCpu header.layout c → IsEvent k →
      volume_in v.events event_count c k ≡ event_volume_after w items c k
  pub counters_each : length v.counters ≡ header.layout.cpus * length header.counters
  pub counters : (c j : ℕ) → IsCpu header.layout c → j < length header.counters →
      volume_in v.counters (length header.counters) c j ≡ pcpu_volume_after header w items c j
