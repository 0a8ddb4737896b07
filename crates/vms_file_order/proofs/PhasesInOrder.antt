-- For other crates too: the three histories of a phase in file order are a phase of its lines, and meet nobody.
use Rattle.std.proofs.Common.{ℕ, List, refl}
use Rattle.std.specs.Prelude.{All}
use Rattle.vms_world.specs.Common.{Header, ZoneSize, HasWon, Item, PageSteps, FitVolumes, IsWorldPhase, TableHistories}
use Rattle.vms_world.specs.Common.{LeavesNothing, SpendTheirLines, left_by, event_facts, pcpu_facts}
use Rattle.vms_world.specs.declared.worlds.World.{World}
use Rattle.vms_file_order.specs.Common.{MakeInAnyOrder, IsFileOrderPhase, page_passes, event_passes, pcpu_passes}
use Rattle.vms_file_order.specs.Common.{event_makes, pcpu_makes, FindsLockFree, MeetsNobody}
use Rattle.vms_file_order.proofs.FollowedLines.{All-in_order, HasLanes-in_order, MakesLines-in_order}

pub IsWorldPhase-made : (pressure normal : ZoneSize → ℕ → ℕ → Type 0) (header : Header) (w : World) (items : List Item)
    (hs : TableHistories) → MakeInAnyOrder header pressure normal w items hs → SpendTheirLines header items hs
    → FitVolumes header w items → LeavesNothing header (left_by header w items hs)
    → IsWorldPhase header pressure normal w items hs (left_by header w items hs)
IsWorldPhase-made pressure normal header w items hs phase spend fit nothing = record {
  complete = phase.complete;
  page_lanes = phase.page_lanes;
  event_lanes = phase.event_lanes;
  pcpu_lanes = phase.pcpu_lanes;
  page_lines = phase.page_lines;
  event_lines = phase.event_lines;
  pcpu_lines = phase.pcpu_lines;
  spent = spend;
  volumes = fit;
  buried = nothing;
  left = refl;
}

module _ (header : Header) (pressure normal : ZoneSize → ℕ → ℕ → Type 0) (w : World) (items : List Item)
    (hs : TableHistories) (order : IsFileOrderPhase header pressure normal w items hs) where
  pub MakeInAnyOrder-in_order : MakeInAnyOrder header pressure normal w items hs
  MakeInAnyOrder-in_order = record {
    complete = order.complete;
    page_lanes = HasLanes-in_order page_passes (PageSteps header w.pages pressure normal) HasWon header.layout items
        hs.pages order.page_order;
    event_lanes = HasLanes-in_order event_passes (event_makes (event_facts header w))
        MeetsNobody header.layout items hs.events order.event_order;
    pcpu_lanes = HasLanes-in_order pcpu_passes (pcpu_makes (pcpu_facts header w)) FindsLockFree
        header.layout items hs.counters order.pcpu_order;
    page_lines = MakesLines-in_order page_passes (PageSteps header w.pages pressure normal) HasWon header.layout items
        hs.pages order.page_order;
    event_lines = MakesLines-in_order event_passes (event_makes (event_facts header w))
        MeetsNobody header.layout items hs.events order.event_order;
    pcpu_lines = MakesLines-in_order pcpu_passes (pcpu_makes (pcpu_facts header w))
        FindsLockFree header.layout items hs.counters order.pcpu_order;
  }

  pub pages-met_nobody : All (λ e. HasWon e.step) hs.pages
  pages-met_nobody = All-in_order page_passes (PageSteps header w.pages pressure normal) HasWon header.layout items
      hs.pages order.page_order (λ q who. tt) (λ q. tt)

  pub counters-met_nobody : All (λ e. FindsLockFree e.step) hs.counters
  counters-met_nobody = All-in_order pcpu_passes (pcpu_makes (pcpu_facts header w))
      FindsLockFree header.layout items hs.counters order.pcpu_order (λ q who. tt) (λ q. tt)
