-- The three histories of a phase in file order, and the laws that hold at each of their moments.
use Rattle.std.specs.Prelude.{◌≡◌, ◌++◌, ℕ, List}
use Rattle.vms_world.specs.Common.{Header, ZoneSize, HasWon, Item, PageSteps, AreComplete, TableHistories, page_facts}
use Rattle.vms_world.specs.Common.{event_facts, pcpu_facts}
use Rattle.vms_core.specs.Laws as page_laws
use Rattle.vms_core.specs.Pages as pages
use Rattle.vms_event_core.specs.Events as events
use Rattle.vms_event_core.specs.Laws as event_laws
use Rattle.vms_pcpu_core.specs.Histories as percpu
use Rattle.vms_pcpu_core.specs.Laws as pcpu_laws
use Rattle.vms_world.specs.declared.worlds.World.{World}
use Rattle.vms_file_order.specs.FileOrder.{IsFileOrder}
use Rattle.vms_file_order.specs.Tables.{page_passes, event_passes, pcpu_passes, event_makes, pcpu_makes, FindsLockFree}
use Rattle.vms_file_order.specs.Tables.{MeetsNobody}

-- these histories are the phase of these lines in file order, from this world: each is legal and complete, no exchange
-- lost, and no lock was found held
pub record IsFileOrderPhase (header : Header) (pressure normal : ZoneSize → ℕ → ℕ → Type 0) (w : World)
    (items : List Item) (hs : TableHistories) : Type 0 where
  pub complete : AreComplete header w hs
  pub page_order : IsFileOrder page_passes (PageSteps header w.pages pressure normal) HasWon header.layout items
      hs.pages
  pub event_order : IsFileOrder event_passes (event_makes (event_facts header w)) MeetsNobody
      header.layout items hs.events
  pub pcpu_order : IsFileOrder pcpu_passes (pcpu_makes (pcpu_facts header w)) FindsLockFree
      header.layout items hs.counters

-- at each moment of these histories all laws of their tables hold
pub record KeepAllLaws (header : Header) (w : World) (hs : TableHistories) : Type 0 where
  pub pages : (more h : pages.History) → hs.pages ≡ more ++ h → page_laws.KeepsLaws (page_facts header w) h
  pub events : (more h : events.History) → hs.events ≡ more ++ h → event_laws.KeepsLaws (event_facts header w) h
  pub counters : (more h : percpu.History) → hs.counters ≡ more ++ h → pcpu_laws.KeepsLaws (pcpu_facts header w) h
