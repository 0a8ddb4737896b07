-- What the main passes have seen when the tables are closed is what the closed histories and the world have.
use Rattle.std.proofs.Common.{◌≡◌, length, sym, ap, subst, ◌∙◌}
use Rattle.vms_world.specs.Common.{Header, Facts, Step, settled, EventState, EventFacts, EventStep, PcpuFacts, PcpuStep}
use Rattle.vms_world.specs.Common.{numbers_after, Event, AreComplete, TableHistories, IsWorldOf}
use Rattle.vms_core.specs.Cells.{HasShape}
use Rattle.vms_core.specs.Pages as page_histories
use Rattle.vms_event_core.specs.Events as event_histories
use Rattle.vms_pcpu_core.specs.Endings as pcpu_endings
use Rattle.std.specs.Prelude.{List}
use Rattle.vms_seats.specs.Common.{Phase}
use Rattle.vms_tables.specs.declared.tables.Tables.{Tables}
use Rattle.vms_tables.specs.Common.{TablePasses, AreMadeFrom, AreTables}
use Rattle.vms_world.specs.declared.worlds.World.{World}
use Rattle.vms_phase.specs.declared.closings.ClosedHistories.{ClosedHistories}
use Rattle.vms_phase.specs.Common.{seen_by, HasClosedTables, HaveFactsOf, histories_of}
use Rattle.vms_phase.proofs.JobLists.{counters-told, events-told, pages-told}

module _ (header : Header) (tables : Tables) (w : World) (are : AreTables header tables) (made : AreMadeFrom w tables)
  where
    pub shaped-there : IsWorldOf header w → HasShape tables.pages.facts.layout w.pages
    shaped-there is = subst (λ (f : Facts). HasShape f.layout w.pages) (sym (pages-told header tables w are made))
        is.page_base.opening.shaped

    pub words-there : length w.events.words ≡ length tables.events.facts.base.words
    words-there = ap (λ (s : EventState). length s.words) (sym made.events)

    -- the histories that were closed
    module _ (mains : TablePasses) (closed : ClosedHistories)
        (page_history : closed.pages ≡ record { facts = tables.pages.facts; events = mains.pages.seen })
        (event_history : closed.events ≡ record { facts = tables.events.facts; events = mains.events.seen })
        (pcpu_history : closed.counters ≡ record { facts = tables.counters.facts; events = mains.counters.seen }) where
      abbrev hist : List (Event Step) → List (Event EventStep) → List (Event PcpuStep) → TableHistories
      hist pages events counters = record { pages = pages; events = events; counters = counters }

      pub closed-seen : histories_of closed ≡ seen_by mains
      closed-seen =
          ap (λ (p : Phase Facts Step). hist p.events closed.events.events closed.counters.events) page_history
          ∙ ap (λ (p : Phase EventFacts EventStep). hist mains.pages.seen p.events closed.counters.events) event_history
          ∙ ap (λ (p : Phase PcpuFacts PcpuStep). hist mains.pages.seen mains.events.seen p.events) pcpu_history

      pub closed-complete : page_histories.IsComplete closed.pages.facts closed.pages.events
          → event_histories.IsComplete closed.events.facts closed.events.events
          → pcpu_endings.IsComplete closed.counters.facts closed.counters.events
          → AreComplete header w (seen_by mains)
      closed-complete pages events counters = record {
        pages = subst (λ (f : Facts). page_histories.IsComplete f mains.pages.seen)
            (pages-told header tables w are made)
            (subst (λ (p : Phase Facts Step). page_histories.IsComplete p.facts p.events) page_history pages);
        events = subst (λ (f : EventFacts). event_histories.IsComplete f mains.events.seen)
            (events-told header tables w are made)
            (subst (λ (p : Phase EventFacts EventStep). event_histories.IsComplete p.facts p.events) event_history
            events);
        counters = subst (λ (f : PcpuFacts). pcpu_endings.IsComplete f mains.counters.seen)
            (counters-told header tables w are made)
            (subst (λ (p : Phase PcpuFacts PcpuStep). pcpu_endings.IsComplete p.facts p.events) pcpu_history counters);
      }

      pub closed-tables : (next : World)
          → next.pages ≡ settled (page_histories.state_after tables.pages.facts mains.pages.seen)
          → next.events ≡ event_histories.state_after tables.events.facts mains.events.seen
          → next.counters ≡ numbers_after tables.counters.facts mains.counters.seen
          → HasClosedTables header w (histories_of closed) next
      closed-tables next pages events counters =
          subst (λ (hs : TableHistories). HasClosedTables header w hs next) (sym closed-seen) (record {
            pages = pages ∙ ap (λ (f : Facts). settled (page_histories.state_after f mains.pages.seen))
                (pages-told header tables w are made);
            events = events ∙ ap (λ (f : EventFacts). event_histories.state_after f mains.events.seen)
                (events-told header tables w are made);
            counters = counters ∙ ap (λ (f : PcpuFacts). numbers_after f mains.counters.seen)
                (counters-told header tables w are made);
          })

      pub closed-facts : HaveFactsOf header w closed
      closed-facts = record {
        pages = ap (λ (p : Phase Facts Step). p.facts) page_history ∙ pages-told header tables w are made;
        events = ap (λ (p : Phase EventFacts EventStep). p.facts) event_history ∙ events-told header tables w are made;
        counters = ap (λ (p : Phase PcpuFacts PcpuStep). p.facts) pcpu_history ∙ counters-told header tables w are made;
      }
