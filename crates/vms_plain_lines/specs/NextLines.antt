-- The line that stands next in an open phase.
use Rattle.std.specs.Prelude.{◌≡◌, ℕ, true, List}
use Rattle.vms_world.specs.Common.{Header, ZoneSize, Item, Lane, is_among, TableHistories}
use Rattle.vms_world.specs.declared.worlds.World.{World}
use Rattle.vms_file_order.specs.Common.{StandOnce, IsOpenPhase, TableStates}

-- lines have come to these states in an open phase, of whose lanes each stands once, and the next one is of one of
-- these lanes
pub record StandsNext (header : Header) (pressure normal : ZoneSize → ℕ → ℕ → Type 0) (w : World) (lanes : List Lane)
    (items : List Item) (hs : TableHistories) (now : TableStates) (item : Item) : Type 0 where
  pub opened : IsOpenPhase header pressure normal w lanes items hs now
  pub once : StandOnce lanes
  pub among : is_among item.lane lanes ≡ true
