-- No step of a phase in file order meets another caller.
use Rattle.vms_file_order.proofs.PhasesInOrder.{counters-met_nobody, pages-met_nobody}
use Rattle.vms_file_order.proofs.phases.file_order_meets_nobody.Goals as goal

pub returns : goal.returns
returns g c = record {
  pages = λ header w items hs order. pages-met_nobody header g.R.ThresholdRules.pressure g.R.ThresholdRules.normal w
      items hs order;
  counters = λ header w items hs order. counters-met_nobody header g.R.ThresholdRules.pressure
      g.R.ThresholdRules.normal w items hs order;
}
