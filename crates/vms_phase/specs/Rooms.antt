-- The volumes with which the passes of a CPU's lane begin, and the room that they leave for the lane's lines.
use Rattle.std.specs.Prelude.{ℕ, ◌+◌, ◌<◌, ◌≤◌, List, length}
use Rattle.vms_world.specs.Common.{Header, IsCounter, most_volume, IsEvent, Act, event_volume, page_volume, pcpu_volume}
use Rattle.vms_world.specs.declared.worlds.World.{World}
use Rattle.vms_lane.specs.Common.{spent_by_all}

-- the volumes of CPU c in a world leave room for what these acts spend
pub record LeaveRoom (header : Header) (w : World) (c : ℕ) (acts : List Act) : Type 0 where
  pub pages : (k : ℕ) → IsCounter header.layout k →
      page_volume header w c k + (spent_by_all acts).counters k ≤ most_volume
  pub events : (k : ℕ) → IsEvent k → event_volume w c k + (spent_by_all acts).events k ≤ most_volume
  pub counters : (j : ℕ) → j < length header.counters →
      pcpu_volume header w c j + (spent_by_all acts).pcpu j ≤ most_volume
