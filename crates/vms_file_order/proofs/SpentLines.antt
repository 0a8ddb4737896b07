-- For other crates too: by the laws of calls, what the histories of a phase spend is what its lines say.
use Rattle.std.proofs.Common.{ℕ, List}
use Rattle.vms_world.specs.Common.{Header, CpuId, ZoneSize, pages, HasWon, Item, Lane, Cpu, PageSteps, lanes_of}
use Rattle.vms_world.specs.Common.{TableHistories, SpendTheirLines, page_facts, event_facts, pcpu_facts}
use Rattle.vms_history.proofs.Common.{base_can_begin}
use Rattle.vms_world.specs.declared.worlds.World.{World}
use Rattle.vms_file_order.specs.Common.{StandOnce, MakeInAnyOrder, IsOpenPhase, TableStates, FindsLockFree, MeetsNobody}
use Rattle.vms_file_order.specs.Common.{event_makes, event_passes, page_passes, pcpu_makes, pcpu_passes}
use Rattle.vms_file_order.proofs.EventVolumes.{events-spend_lines}
use Rattle.vms_file_order.proofs.FollowedLines.{HasLanes-followed, MakesActs-followed, acts_of-followed}
use Rattle.vms_file_order.proofs.LaneLists.{StandOnce-lanes}
use Rattle.vms_file_order.proofs.OnePass.{acts_of-apart}
use Rattle.vms_file_order.proofs.PageVolumes.{pages-spend_lines}
use Rattle.vms_file_order.proofs.PcpuVolumes.{pcpu-spend_lines}

abbrev cpu : ℕ → CpuId
cpu n = record { number = n }

module _ (pressure normal : ZoneSize → ℕ → ℕ → Type 0) (header : Header) (w : World) where
  pub SpendTheirLines-made : (items : List Item) (hs : TableHistories) →
      MakeInAnyOrder header pressure normal w items hs
      → SpendTheirLines header items hs
  SpendTheirLines-made items hs makes =
      let ls = lanes_of header.layout items in
      let once = StandOnce-lanes header.layout items in
      record {
        pages = λ n k known. pages-spend_lines header
            (base_can_begin pages (page_facts header w) hs.pages makes.complete.pages.legal).layout w.pages pressure
            normal (cpu n) k ls once items (acts_of-apart header items (cpu n) known) hs.pages
            makes.complete.pages.legal makes.page_lanes makes.page_lines;
        events = λ n k known. events-spend_lines (event_facts header w) (cpu n) k ls once items
            (acts_of-apart header items (cpu n) known) hs.events makes.complete.events.legal makes.event_lanes
            makes.event_lines;
        counters = λ n j known. pcpu-spend_lines (pcpu_facts header w) (cpu n) j ls once items
            (acts_of-apart header items (cpu n) known) hs.counters makes.complete.counters.legal makes.pcpu_lanes
            makes.pcpu_lines;
      }

  pub SpendTheirLines-opened : (ls : List Lane) (items : List Item) (hs : TableHistories) (now : TableStates)
      → StandOnce ls → IsOpenPhase header pressure normal w ls items hs now → SpendTheirLines header items hs
  SpendTheirLines-opened ls items hs now once opened =
      let page = PageSteps header w.pages pressure normal in
      let event = event_makes (event_facts header w) in
      let counter = pcpu_makes (pcpu_facts header w) in
      record {
        pages = λ n k known. pages-spend_lines header
            (base_can_begin pages (page_facts header w) hs.pages opened.pages.legal).layout w.pages pressure normal
            (cpu n) k ls once items
            (acts_of-followed page_passes page HasWon ls items hs.pages opened.page_lines (Cpu (cpu n))) hs.pages
            opened.pages.legal (HasLanes-followed page_passes page HasWon ls once items hs.pages opened.page_lines)
            (MakesActs-followed page_passes page HasWon ls once items hs.pages opened.page_lines);
        events = λ n k known. events-spend_lines (event_facts header w) (cpu n) k ls once items
            (acts_of-followed event_passes event MeetsNobody ls items hs.events opened.event_lines (Cpu (cpu n)))
            hs.events opened.events.legal
            (HasLanes-followed event_passes event MeetsNobody ls once items hs.events opened.event_lines)
            (MakesActs-followed event_passes event MeetsNobody ls once items hs.events opened.event_lines);
        counters = λ n j known. pcpu-spend_lines (pcpu_facts header w) (cpu n) j ls once items
            (acts_of-followed pcpu_passes counter FindsLockFree ls items hs.counters opened.pcpu_lines
            (Cpu (cpu n))) hs.counters opened.counters.legal
            (HasLanes-followed pcpu_passes counter FindsLockFree ls once items hs.counters opened.pcpu_lines)
            (MakesActs-followed pcpu_passes counter FindsLockFree ls once items hs.counters opened.pcpu_lines);
      }
