-- In each table the main pass's own events are those of a whole phase, whose lanes may have their passes.
use Rattle.std.proofs.Common.{sym, subst, ◌∙◌}
use Rattle.vms_world.specs.Common.{Facts, pages, EventFacts, events, PcpuFacts, percpu, lanes_of}
use Rattle.vms_file_order.specs.Common.{MayOwnEach}
use Rattle.vms_file_order.proofs.Common.{owners-online, StandOnce-lanes}
use Rattle.vms_phase.proofs.JobLists.{counters-told, events-told, pages-told}
use Rattle.vms_phase.proofs.joins.fitting_lanes_have_ended.Goals as goal

pub returns : goal.returns
returns g c header tables w start items mains are made of is fits ended =
    let lanes = lanes_of header.layout items in
    let once = StandOnce-lanes header.layout items in
    let online = owners-online header start w is items fits in
    let page_facts = of.pages.facts ∙ pages-told header tables w are made in
    let event_facts = of.events.facts ∙ events-told header tables w are made in
    let pcpu_facts = of.counters.facts ∙ counters-told header tables w are made in
    record {
      pages = c.lanes_end_in_turn.ensures.over lanes mains.pages
          (subst (λ (facts : Facts). pages.CanBegin facts) (sym page_facts) is.world.page_base)
          (subst (λ (facts : Facts). MayOwnEach pages facts lanes) (sym page_facts) online) once ended.pages;
      events = c.lanes_end_in_turn-2.ensures.over lanes mains.events
          (subst (λ (facts : EventFacts). events.CanBegin facts) (sym event_facts) is.world.event_base)
          (subst (λ (facts : EventFacts). MayOwnEach events facts lanes) (sym event_facts) online) once ended.events;
      counters = c.lanes_end_in_turn-3.ensures.over lanes mains.counters
          (subst (λ (facts : PcpuFacts). percpu.CanBegin facts) (sym pcpu_facts) is.world.pcpu_base)
          (subst (λ (facts : PcpuFacts). MayOwnEach percpu facts lanes) (sym pcpu_facts) online) once ended.counters;
    }
