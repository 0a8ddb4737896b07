-- Pages and events are spent by the law of lines, and percpu counters as the answers tell.
use Rattle.vms_spending_laws.proofs.PcpuSpending.{counters-spend_sizes}
use Rattle.vms_spending_laws.proofs.phases.phases_spend_as_answered.Goals as goal

pub returns : goal.returns
returns g c header w items hs makes known ascend =
    let spend = c.phases_spend_their_lines.ensures.ended header w items hs makes in
    record {
      pages = spend.pages;
      events = spend.events;
      counters = λ cpu j. counters-spend_sizes header w cpu j items hs makes.complete.counters.legal makes.pcpu_lanes
          makes.pcpu_lines known ascend;
    }
