-- Histories that make the lines of a phase, whether in file order or not.
use Rattle.std.specs.Prelude.{ℕ, List}
use Rattle.vms_world.specs.Common.{Header, ZoneSize, Item, PageSteps, HasLanes, MakesLines, lanes_of, AreComplete}
use Rattle.vms_world.specs.Common.{TableHistories, event_facts, pcpu_facts}
use Rattle.vms_core.specs.Steps as page_steps
use Rattle.vms_event_core.specs.Steps as event_steps
use Rattle.vms_pcpu_core.specs.Steps as pcpu_steps
use Rattle.vms_world.specs.declared.worlds.World.{World}
use Rattle.vms_file_order.specs.Tables.{event_makes, pcpu_makes}

-- these histories make a phase of these lines from this world, whatever they spend and leave
pub record MakeInAnyOrder (header : Header) (pressure normal : ZoneSize → ℕ → ℕ → Type 0) (w : World)
    (items : List Item)
    (hs : TableHistories) : Type 0 where
  pub complete : AreComplete header w hs
  pub page_lanes : HasLanes page_steps.role (lanes_of header.layout items) hs.pages
  pub event_lanes : HasLanes event_steps.role (lanes_of header.layout items) hs.events
  pub pcpu_lanes : HasLanes pcpu_steps.role (lanes_of header.layout items) hs.counters
  pub page_lines : MakesLines (PageSteps header w.pages pressure normal) (lanes_of header.layout items) items hs.pages
  pub event_lines : MakesLines (event_makes (event_facts header w))
      (lanes_of header.layout items) items hs.events
  pub pcpu_lines : MakesLines (pcpu_makes (pcpu_facts header w))
      (lanes_of header.layout items) items hs.counters
