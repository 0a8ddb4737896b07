-- What a start says of the volumes of a world.
use Rattle.std.specs.Prelude.{ℕ, ◌≤◌}
use Rattle.vms_world.specs.Common.{Header, IsCpu, IsCounter, IsEvent, IsPcpu, Start, pcpu_facts, event_volume}
use Rattle.vms_world.specs.Common.{page_volume, pcpu_volume}
use Rattle.vms_world.specs.declared.worlds.World.{World}

-- no CPU of a world has changed anything by more than a start says
pub record CoversVolumes (header : Header) (start : Start) (w : World) : Type 0 where
  pub pages : (c k : ℕ) → IsCpu header.layout c → IsCounter header.layout k →
      page_volume header w c k ≤ start.counters c k
  pub events : (c k : ℕ) → IsCpu header.layout c → IsEvent k → event_volume w c k ≤ start.events c k
  pub counters : (c j : ℕ) → IsCpu header.layout c → IsPcpu (pcpu_facts header w) j →
      pcpu_volume header w c j ≤ start.pcpu c j
