-- Each beginning of a complete history is legal.
use Rattle.std.proofs.Common.{subst}
use Rattle.vms_core.specs.Pages as pages
use Rattle.vms_event_core.specs.Events as events
use Rattle.vms_pcpu_core.specs.Histories as percpu
use Rattle.vms_world.specs.Common.{page_facts, event_facts, pcpu_facts}
use Rattle.vms_file_order.proofs.phases.phases_keep_all_laws.Goals as goal

pub returns : goal.returns
returns c header w hs complete = record {
  pages = λ more h parts. c.laws_are_kept.ensures (page_facts header w) more h
      (subst (pages.IsLegal (page_facts header w)) parts complete.pages.legal);
  events = λ more h parts. c.laws_are_kept-2.ensures (event_facts header w) more h
      (subst (events.IsLegal (event_facts header w)) parts complete.events.legal);
  counters = λ more h parts. c.laws_are_kept-3.ensures (pcpu_facts header w) more h
      (subst (percpu.IsLegal (pcpu_facts header w)) parts complete.counters.legal);
}
