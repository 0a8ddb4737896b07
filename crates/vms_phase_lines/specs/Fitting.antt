-- Lines that fit the page counters with which their phase begins.
use Rattle.std.specs.Prelude.{◌≡◌, ◌≤◌, List, length}
use Rattle.vms_world.specs.Common.{Fits, Header, Item, Start, State, most_items}
use Rattle.vms_world.specs.declared.worlds.World.{World}
use Rattle.vms_file_order.specs.Common.{IsStartOf}

-- these are the page counters of a world, each of the lines counts after what a start says of that world and after
-- those before it, and there are no more of them than a phase has
pub record FitPages (header : Header) (base : State) (items : List Item) : Type 0 where
  pub world : World
  pub pages : world.pages ≡ base
  pub start : Start
  pub is : IsStartOf header start world
  pub fits : Fits header start items
  pub few : length items ≤ most_items
