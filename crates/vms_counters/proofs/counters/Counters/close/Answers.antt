-- A CPU whose volumes are kept is free, so no pass lives when the counters are closed.
use Rattle.std.proofs.Common.{rules, ◌≡◌, true, All, IsSome, ap, sym, ◌∙◌, subst}
use Rattle.std.specs.Arc.{arc_value}
use Rattle.vms_core.specs.Pages.{state_after}
use Rattle.vms_event_core.specs.Events as event_histories
use Rattle.vms_seats.specs.Common.{Phase}
use Rattle.vms_world.specs.Common.{EventFacts, EventStep, Facts, PcpuFacts, PcpuStep, Step, numbers_after, settled}
use Rattle.vms_tables.specs.Common.{mains_of}
use Rattle.vms_tables.specs.declared.tables.Tables.{Tables}
use Rattle.vms_counters.specs.Opened.{AreClosed, AreKept, Opened}
use Rattle.vms_counters.proofs.ThreeTables.{counters-ended, events-ended, pages-ended}
use Rattle.vms_counters.proofs.counters.Counters.close.Goals as goal

pub close_tables-requires-clause-pages_ended : goal.close_tables-requires-clause-pages_ended
close_tables-requires-clause-pages_ended c =
    let old = c.self.inside in
    let control : old.control ≡ true = search rules in
    let yes : c.all_kept.result ≡ true = search rules in
    let same : c.as_slice.result.now ≡ old.volumes.items = search rules in
    pages-ended (arc_value old.shared).header (arc_value old.shared).tables c.self.invariant.are old.last
    (mains_of old.mains) old.volumes.items
    (subst (AreKept (arc_value old.shared).tables old.last (mains_of old.mains) old.volumes.items) control
    c.self.invariant.kept)
    (subst (All IsSome) same (c.all_kept.ensures.0 yes))

pub close_tables-requires-clause-events_ended : goal.close_tables-requires-clause-events_ended
close_tables-requires-clause-events_ended c =
    let old = c.self.inside in
    let control : old.control ≡ true = search rules in
    let yes : c.all_kept.result ≡ true = search rules in
    let same : c.as_slice.result.now ≡ old.volumes.items = search rules in
    events-ended (arc_value old.shared).header (arc_value old.shared).tables c.self.invariant.are old.last
    (mains_of old.mains) old.volumes.items
    (subst (AreKept (arc_value old.shared).tables old.last (mains_of old.mains) old.volumes.items) control
    c.self.invariant.kept)
    (subst (All IsSome) same (c.all_kept.ensures.0 yes))

pub close_tables-requires-clause-counters_ended : goal.close_tables-requires-clause-counters_ended
close_tables-requires-clause-counters_ended c =
    let old = c.self.inside in
    let control : old.control ≡ true = search rules in
    let yes : c.all_kept.result ≡ true = search rules in
    let same : c.as_slice.result.now ≡ old.volumes.items = search rules in
    counters-ended (arc_value old.shared).header (arc_value old.shared).tables c.self.invariant.are old.last
    (mains_of old.mains) old.volumes.items
    (subst (AreKept (arc_value old.shared).tables old.last (mains_of old.mains) old.volumes.items) control
    c.self.invariant.kept)
    (subst (All IsSome) same (c.all_kept.ensures.0 yes))

pub returns-in-Ok-clause-ok : goal.returns-in-Ok-clause-ok
returns-in-Ok-clause-ok c =
    let old = c.self.inside in
    let kept = c.self.invariant.kept in
    let made = c.close_tables.ensures in
    let control : old.control ≡ true = search rules in
    let yes : c.all_kept.result ≡ true = search rules in
    let same : c.as_slice.result.now ≡ old.volumes.items = search rules in
    let tables : c.in-Ok.field-0.tables ≡ (arc_value old.shared).tables = search rules in
    let page_phase : Facts → Phase Facts Step = λ f. record { facts = f; events = old.mains.page.seen } in
    let event_phase : EventFacts → Phase EventFacts EventStep =
    λ f. record { facts = f; events = old.mains.event.seen } in
    let pcpu_phase : PcpuFacts → Phase PcpuFacts PcpuStep =
    λ f. record { facts = f; events = old.mains.pcpu.seen } in
    let page_seen : c.close_tables.result.page_history ≡ page_phase c.in-Ok.field-0.tables.pages.facts =
    made.page_history in
    let event_seen : c.close_tables.result.event_history ≡ event_phase c.in-Ok.field-0.tables.events.facts =
    made.event_history in
    let pcpu_seen : c.close_tables.result.pcpu_history ≡ pcpu_phase c.in-Ok.field-0.tables.counters.facts =
    made.pcpu_history in
    subst (λ (o : Opened). AreClosed o c.close_tables.result) c.self.view_is (record {
      all_kept = subst (All IsSome) same (c.all_kept.ensures.0 yes);
      no_control = control;
      page_history = page_seen ∙ ap page_phase (ap (λ (t : Tables). t.pages.facts) tables ∙ sym kept.pages.of.facts);
      event_history = event_seen ∙ ap event_phase (ap (λ (t : Tables). t.events.facts) tables ∙ sym
          kept.events.of.facts);
      pcpu_history = pcpu_seen ∙ ap pcpu_phase (ap (λ (t : Tables). t.counters.facts) tables ∙ sym
          kept.counters.of.facts);
      pages_complete = made.pages_complete;
      events_complete = made.events_complete;
      counters_complete = made.counters_complete;
      pages = made.pages
          ∙ ap (λ (p : Phase Facts Step). settled (state_after p.facts p.events)) (sym page_seen);
      events = made.events
          ∙ ap (λ (p : Phase EventFacts EventStep). event_histories.state_after p.facts p.events)
          (sym event_seen);
      counters = made.counters
          ∙ ap (λ (p : Phase PcpuFacts PcpuStep). numbers_after p.facts p.events) (sym pcpu_seen);
    })
