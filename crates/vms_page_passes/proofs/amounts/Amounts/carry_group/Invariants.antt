use Rattle.vms_page_passes.specs.Amounts.{Carries}
use Rattle.vms_page_passes.proofs.AmountSteps.{counters_first, items_first}
use Rattle.vms_page_passes.proofs.amounts.Amounts.carry_group.Given as goal

abbrev pub invariant-loop-n : goal.invariant-loop-n
invariant-loop-n l = Carries l.layout l.slot (counters_first l.group.number l.list.values l.n)
    (items_first l.layout l.group.number l.list.values l.n) l.initial.self l.self
