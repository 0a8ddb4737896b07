-- A line that makes no step in a table goes on there to the state that stands.
use Rattle.std.proofs.Common.{ℕ, List, []}
use Rattle.vms_world.specs.Common.{Header, ZoneSize, events, percpu, Item, Lane, EventSteps, PcpuSteps, TableHistories}
use Rattle.vms_world.specs.Common.{event_facts, pcpu_facts}
use Rattle.vms_world.specs.declared.worlds.World.{World}
use Rattle.vms_file_order.specs.Common.{GoesOnWithLine, TableStates, FindsLockFree, MeetsNobody, event_makes}
use Rattle.vms_file_order.specs.Common.{event_passes, pcpu_makes, pcpu_passes}
use Rattle.vms_file_order.proofs.Common.{GoesOnWithLine-none}
use Rattle.vms_plain_lines.specs.Common.{StandsNext}

module _ (pressure normal : ZoneSize → ℕ → ℕ → Type 0) (header : Header) (w : World) (lanes : List Lane)
    (items : List Item) (hs : TableHistories) (now : TableStates) (item : Item)
    (stands : StandsNext header pressure normal w lanes items hs now item) where
  pub none_of_events : EventSteps (event_facts header w) item.lane item.act []
      → GoesOnWithLine events (event_makes (event_facts header w)) MeetsNobody (event_facts header w) lanes item
      hs.events now.events
  none_of_events none = GoesOnWithLine-none events event_passes (event_makes (event_facts header w)) MeetsNobody
      (event_facts header w) lanes item hs.events now.events stands.among stands.opened.events none

  pub none_of_counters : PcpuSteps (pcpu_facts header w) item.lane item.act []
      → GoesOnWithLine percpu (pcpu_makes (pcpu_facts header w)) FindsLockFree (pcpu_facts header w) lanes item
      hs.counters now.counters
  none_of_counters none = GoesOnWithLine-none percpu pcpu_passes (pcpu_makes (pcpu_facts header w)) FindsLockFree
      (pcpu_facts header w) lanes item hs.counters now.counters stands.among stands.opened.counters none
