-- In an open phase each CPU has spent what its lines so far say.
use Rattle.std.proofs.Common.{◌≡◌, ℕ, ◌≤◌, List, map}
use Rattle.vms_world.specs.Common.{Header, CpuId, ZoneSize, pages, HasWon, line_of, spent_on_counter, spent_on_event}
use Rattle.vms_world.specs.Common.{spent_on_pcpu, volume, Item, Lane, Cpu, PageSteps, TableHistories, page_facts}
use Rattle.vms_world.specs.Common.{event_facts, pcpu_facts}
use Rattle.vms_history.proofs.Common.{base_can_begin}
use Rattle.vms_core.specs.Totals as page_totals
use Rattle.vms_event_core.specs.Totals as event_totals
use Rattle.vms_pcpu_core.specs.Totals as pcpu_totals
use Rattle.vms_world.specs.declared.worlds.World.{World}
use Rattle.vms_file_order.specs.Common.{StandOnce, IsOpenPhase, TableStates, FindsLockFree, MeetsNobody, event_makes}
use Rattle.vms_file_order.specs.Common.{event_passes, page_passes, pcpu_makes, pcpu_passes}
use Rattle.vms_file_order.proofs.Common.{events-spend_lines, HasLanes-followed, MakesActs-followed, acts_of-followed}
use Rattle.vms_file_order.proofs.Common.{pages-spend_lines, pcpu-spend_lines}

module _ (pressure normal : ZoneSize → ℕ → ℕ → Type 0) (header : Header) (w : World) (lanes : List Lane)
    (items : List Item) (hs : TableHistories) (now : TableStates) (once : StandOnce lanes)
    (opened : IsOpenPhase header pressure normal w lanes items hs now) where
  pub spent-pages : (c : CpuId) (k : ℕ)
      → page_totals.spent hs.pages c.number k ≡ volume (spent_on_counter k) c.number (map line_of items)
  spent-pages c k =
      let makes = PageSteps header w.pages pressure normal in
      pages-spend_lines header
      (base_can_begin pages (page_facts header w) hs.pages opened.pages.legal).layout w.pages pressure normal c k lanes
      once items (acts_of-followed page_passes makes HasWon lanes items hs.pages opened.page_lines (Cpu c)) hs.pages
      opened.pages.legal (HasLanes-followed page_passes makes HasWon lanes once items hs.pages opened.page_lines)
      (MakesActs-followed page_passes makes HasWon lanes once items hs.pages opened.page_lines)

  pub spent-events : (c : CpuId) (k : ℕ)
      → event_totals.spent hs.events c.number k ≡ volume (spent_on_event k) c.number (map line_of items)
  spent-events c k =
      let makes = event_makes (event_facts header w) in
      events-spend_lines (event_facts header w) c k lanes once items
      (acts_of-followed event_passes makes MeetsNobody lanes items hs.events opened.event_lines (Cpu c)) hs.events
      opened.events.legal
      (HasLanes-followed event_passes makes MeetsNobody lanes once items hs.events opened.event_lines)
      (MakesActs-followed event_passes makes MeetsNobody lanes once items hs.events opened.event_lines)

  -- of a percpu counter it is at most that, since a limited addition may add nothing
  pub spent-counters : (c : CpuId) (j : ℕ)
      → pcpu_totals.spent hs.counters c.number j ≤ volume (spent_on_pcpu j) c.number (map line_of items)
  spent-counters c j =
      let makes = pcpu_makes (pcpu_facts header w) in
      pcpu-spend_lines (pcpu_facts header w) c j lanes once items
      (acts_of-followed pcpu_passes makes FindsLockFree lanes items hs.counters opened.pcpu_lines (Cpu c)) hs.counters
      opened.counters.legal
      (HasLanes-followed pcpu_passes makes FindsLockFree lanes once items hs.counters opened.pcpu_lines)
      (MakesActs-followed pcpu_passes makes FindsLockFree lanes once items hs.counters opened.pcpu_lines)
