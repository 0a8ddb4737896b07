-- Each position settles as its own function says.
use Rattle.std.proofs.Common.{subst, sym}
use Rattle.vms_cursors.specs.TurnClauses.{TurnEnded, TurnSame}
use Rattle.vms_cursors.proofs.turn_positions.TurnPosition.settled.Goals as goal

pub returns-in-Presses-clause-same : goal.returns-in-Presses-clause-same
returns-in-Presses-clause-same g c =
    let P = g.R.ThresholdRules.pressure in
    let N = g.R.ThresholdRules.normal in
    subst (λ s. TurnSame c.args.header.now P N c.args.turn s c.settled_pressure.result) (sym c.in-Presses.is)
    c.settled_pressure.ensures.same

pub returns-in-Presses-clause-ended : goal.returns-in-Presses-clause-ended
returns-in-Presses-clause-ended g c = λ ended.
    let P = g.R.ThresholdRules.pressure in
    let N = g.R.ThresholdRules.normal in
    subst (TurnEnded c.args.header.now P N c.args.turn) (sym c.in-Presses.is)
    (c.settled_pressure.ensures.ended ended)

pub returns-in-Tests-clause-same : goal.returns-in-Tests-clause-same
returns-in-Tests-clause-same g c =
    let P = g.R.ThresholdRules.pressure in
    let N = g.R.ThresholdRules.normal in
    subst (λ s. TurnSame c.args.header.now P N c.args.turn s c.settled_test.result) (sym c.in-Tests.is)
    c.settled_test.ensures.same

pub returns-in-Tests-clause-ended : goal.returns-in-Tests-clause-ended
returns-in-Tests-clause-ended g c = λ ended.
    let P = g.R.ThresholdRules.pressure in
    let N = g.R.ThresholdRules.normal in
    subst (TurnEnded c.args.header.now P N c.args.turn) (sym c.in-Tests.is) (c.settled_test.ensures.ended ended)

pub returns-in-Settles-clause-same : goal.returns-in-Settles-clause-same
returns-in-Settles-clause-same g c = λ base p h steps answer. ((λ run. run), (λ run. run))

pub returns-in-Settles-clause-ended : goal.returns-in-Settles-clause-ended
returns-in-Settles-clause-ended g c = λ ended. ended
