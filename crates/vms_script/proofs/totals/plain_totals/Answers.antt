use Rattle.std.proofs.Common.{ap, ◌∙◌, get_or, pos, ◌+ℤ◌, arith}
use Rattle.vms_script.specs.Common.{changes_by}
use Rattle.vms_script.proofs.Changes.{HasTotal-each, Leads-first, Leads-phase}
use Rattle.vms_script.proofs.totals.plain_totals.Goals as goal

pub loop-phase-init : goal.loop-phase-init
loop-phase-init c = rw (c.in_ok-totals.ensures, c.as_slice.ensures)
    (Leads-first c.args.header.now c.args.phases.now c.requires.header c.requires.phases)

pub add_phase-requires-clause-known : goal.add_phase-requires-clause-known
add_phase-requires-clause-known c = rw (c.as_slice-in-loop-phase.ensures.items, c.phase-item.is)
    (HasTotal-each c.args.header.now c.args.phases.now c.loop-phase.phase-index
    c.phase-item.result c.loop-phase.totals c.requires.phases c.loop-phase-test.true c.loop-phase.invariant.each)

pub loop-phase-preserved : goal.loop-phase-preserved
loop-phase-preserved c =
    let items = c.as_slice-in-loop-phase.ensures.items ∙ c.phase-item.is in
    Leads-phase _ _ c.args.phases.now c.loop-phase.phase-index c.phase-item.result
    c.loop-phase.totals c.add_phase.new.totals c.loop-phase-test.true c.add_phase.ensures.each
    (λ k below. c.add_phase.ensures.is k (omega (arith, c.loop-phase.invariant.each))
    ∙ ap (λ n. get_or c.loop-phase.totals k (pos 0) +ℤ changes_by k n) items) c.loop-phase.invariant
