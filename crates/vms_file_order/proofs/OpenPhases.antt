-- For other crates too: a phase opens in the three tables, goes on with lines, and closes in file order.
use Rattle.std.proofs.Common.{◌≡◌, ℕ, true, List, [], ◌∷◌, ◌++◌, refl, ap}
use Rattle.std.specs.Prelude.{All}
use Rattle.vms_world.specs.Common.{Header, ZoneSize, MayOwnCpu, settled, pages, quiet_pages, events, quiet_events}
use Rattle.vms_world.specs.Common.{percpu, quiet_percpu, HasWon, Item, Lane, PageSteps, is_among, lanes_of, owner_of}
use Rattle.vms_world.specs.Common.{TableHistories, left_by, IsWorldOf, page_facts, event_facts, pcpu_facts}
use Rattle.vms_world.specs.declared.worlds.World.{World}
use Rattle.vms_file_order.specs.Common.{none, IsFileOrderPhase, StandOnce, EndsIn, GoesOnInTables, IsOpenPhase}
use Rattle.vms_file_order.specs.Common.{TableStates, closings_of, opening_states, openings_of, histories_with_line}
use Rattle.vms_file_order.specs.Common.{page_passes, event_passes, pcpu_passes, event_makes, pcpu_makes, FindsLockFree}
use Rattle.vms_file_order.specs.Common.{MeetsNobody}
use Rattle.vms_file_order.proofs.Closings.{IsComplete-closing, state_after-closing}
use Rattle.vms_file_order.proofs.FollowedLines.{Follow-line, StandsOpen-line}
use Rattle.vms_file_order.proofs.Openings.{StandsOpen-opening}

module _ (pressure normal : ZoneSize → ℕ → ℕ → Type 0) (header : Header) (w : World) where
  pub IsOpenPhase-opening : (lanes : List Lane) → IsWorldOf header w → StandOnce lanes
      → All (λ lane. MayOwnCpu header.layout w.pages.cpu (owner_of lane)) lanes
      → IsOpenPhase header pressure normal w lanes [] (openings_of lanes) (opening_states header w)
  IsOpenPhase-opening lanes of once may = record {
    page_lines = none;
    event_lines = none;
    pcpu_lines = none;
    pages = StandsOpen-opening pages quiet_pages page_passes (page_facts header w) lanes of.page_base
        (record { counters = λ k. refl; items = λ i. refl }) may once;
    events = StandsOpen-opening events quiet_events event_passes (event_facts header w) lanes of.event_base
        (λ k known. refl) may once;
    counters = StandsOpen-opening percpu quiet_percpu pcpu_passes (pcpu_facts header w) lanes of.pcpu_base
        (λ j known. refl) may once;
  }

  pub IsOpenPhase-line : (lanes : List Lane) (items : List Item) (hs : TableHistories) (now : TableStates)
      → IsOpenPhase header pressure normal w lanes items hs now → (item : Item) (next : TableStates)
      → is_among item.lane lanes ≡ true → (line : GoesOnInTables header pressure normal w lanes item hs next)
      → IsOpenPhase header pressure normal w lanes (items ++ item ∷ [])
      (histories_with_line header pressure normal w lanes item hs next line) next
  IsOpenPhase-line lanes items hs now opened item next among line =
      let page = PageSteps header w.pages pressure normal in
      let event = event_makes (event_facts header w) in
      let counter = pcpu_makes (pcpu_facts header w) in
      record {
        page_lines = Follow-line pages page_passes page HasWon (page_facts header w) lanes item hs.pages
            next.pages among line.pages items opened.page_lines;
        event_lines = Follow-line events event_passes event MeetsNobody (event_facts header w) lanes item hs.events
            next.events among line.events items opened.event_lines;
        pcpu_lines = Follow-line percpu pcpu_passes counter FindsLockFree (pcpu_facts header w) lanes item hs.counters
            next.counters among line.counters items opened.pcpu_lines;
        pages = StandsOpen-line pages page_passes page HasWon (page_facts header w) lanes item hs.pages
            next.pages among line.pages now.pages opened.pages;
        events = StandsOpen-line events event_passes event MeetsNobody (event_facts header w) lanes item hs.events
            next.events among line.events now.events opened.events;
        counters = StandsOpen-line percpu pcpu_passes counter FindsLockFree (pcpu_facts header w) lanes item
            hs.counters next.counters among line.counters now.counters opened.counters;
      }

  module _ (items : List Item) (hs : TableHistories) (now : TableStates)
      (opened : IsOpenPhase header pressure normal w (lanes_of header.layout items) items hs now) where
    abbrev lanes : List Lane
    lanes = lanes_of header.layout items

    pub IsFileOrderPhase-closing : IsFileOrderPhase header pressure normal w items (closings_of lanes hs)
    IsFileOrderPhase-closing = record {
      complete = record {
        pages = IsComplete-closing pages quiet_pages page_passes (page_facts header w) lanes hs.pages now.pages
            opened.pages;
        events = IsComplete-closing events quiet_events event_passes (event_facts header w) lanes hs.events now.events
            opened.events;
        counters = IsComplete-closing percpu quiet_percpu pcpu_passes (pcpu_facts header w) lanes hs.counters
            now.counters opened.counters;
      };
      page_order = record { lines = hs.pages; follow = opened.page_lines; ends = refl };
      event_order = record { lines = hs.events; follow = opened.event_lines; ends = refl };
      pcpu_order = record { lines = hs.counters; follow = opened.pcpu_lines; ends = refl };
    }

    pub EndsIn-closing : EndsIn (left_by header w items (closings_of lanes hs)) now
    EndsIn-closing = record {
      pages = ap settled (state_after-closing pages quiet_pages page_passes (page_facts header w) lanes hs.pages
          now.pages opened.pages);
      events = state_after-closing events quiet_events event_passes (event_facts header w) lanes hs.events now.events
          opened.events;
      counters = ap (λ s. s.numbers) (state_after-closing percpu quiet_percpu pcpu_passes (pcpu_facts header w) lanes
          hs.counters now.counters opened.counters);
    }
