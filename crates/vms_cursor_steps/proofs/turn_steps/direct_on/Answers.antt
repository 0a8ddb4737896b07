-- The turn goes on as the call that gives thresholds does.
use Rattle.std.proofs.Common.{sym, subst}
use Rattle.vms_cursors.specs.TurnClauses.{TurnGoes}
use Rattle.vms_cursors.specs.declared.turn_positions.TurnPosition.{TurnPosition}
use Rattle.vms_cursors.specs.declared.turn_positions.TurnPosition.TheVariants.{Presses, Settles}
use Rattle.vms_cursors.proofs.TurnGoes.{presses-go, settles-go}
use Rattle.vms_cursor_steps.proofs.turn_steps.direct_on.Goals as goal

pub returns-in-Presses-clause-goes : goal.returns-in-Presses-clause-goes
returns-in-Presses-clause-goes g c = λ yes.
    let header = c.args.header.now in
    let P = g.R.ThresholdRules.pressure in
    let N = g.R.ThresholdRules.normal in
    let on = c.direct_on.ensures.goes yes in
    subst (λ (at : TurnPosition). TurnGoes header P N c.args.turn at c.args.step.now (Presses c.direct_on.new.at))
    (sym c.in-Presses.is)
    (λ base p h. presses-go header base p P N c.args.turn h c.in-Presses.rating (on.unended header.sizes base p h)
    c.args.step.now c.direct_on.new.at (on.goes header.sizes base p h))

pub returns-in-Settles-clause-goes : goal.returns-in-Settles-clause-goes
returns-in-Settles-clause-goes g c = λ yes.
    let header = c.args.header.now in
    let P = g.R.ThresholdRules.pressure in
    let N = g.R.ThresholdRules.normal in
    let on = c.direct_on-in-Settles.ensures.goes yes in
    subst (λ (at : TurnPosition). TurnGoes header P N c.args.turn at c.args.step.now
    (Settles c.in-Settles.field-0 c.in-Settles.field-1 c.direct_on-in-Settles.new.at)) (sym c.in-Settles.is)
    (λ base p h. settles-go header base p P N c.args.turn h c.in-Settles.field-0 c.in-Settles.field-1
    c.in-Settles.rating c.args.step.now c.direct_on-in-Settles.new.at (on.goes header.sizes base p h))
