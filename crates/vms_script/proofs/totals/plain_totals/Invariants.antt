use Rattle.std.proofs.Common.{drop}
use Rattle.vms_base.specs.Common.{counter_count}
use Rattle.vms_script.specs.Common.{changes_by_all, plain_total, sizes_by_all}
use Rattle.vms_script.proofs.Changes.{Leads}
use Rattle.vms_script.proofs.totals.plain_totals.Given as goal

abbrev pub invariant-loop-phase : goal.invariant-loop-phase
invariant-loop-phase l =
    Leads (counter_count l.header.layout) (plain_total l.header l.phases)
    (λ k. changes_by_all k (drop l.phase-index l.phases))
    (λ k. sizes_by_all k (drop l.phase-index l.phases)) l.totals
