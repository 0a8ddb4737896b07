use Rattle.vms_phase.proofs.FreshCpus.{counters-fresh, events-fresh, pages-fresh}
use Rattle.vms_phase.proofs.turns.fresh_cpus_have_spent_nothing.Goals as goal

pub returns : goal.returns
returns c = record {
  pages = λ lanes cpu main once apart has k. pages-fresh lanes cpu once apart main has k;
  events = λ lanes cpu main once apart has k. events-fresh lanes cpu once apart main has k;
  counters = λ lanes cpu main once apart has j. counters-fresh lanes cpu once apart main has j;
}
