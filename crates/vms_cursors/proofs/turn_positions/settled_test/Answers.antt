-- The balance test settles, and then its end.
use Rattle.std.proofs.Common.{[]}
use Rattle.vms_calls.specs.declared.answers.Balance.TheVariants.{No}
use Rattle.vms_cursors.specs.Turns.{turn_at}
use Rattle.vms_cursors.specs.declared.turn_positions.TurnPosition.TheVariants.{Tests}
use Rattle.vms_cursors.proofs.PlanEquations.{same-both}
use Rattle.vms_cursors.proofs.TurnGoes.{tests-same}
use Rattle.vms_cursors.proofs.turn_positions.settled_test.Goals as goal

pub returns-clause-same : goal.returns-clause-same
returns-clause-same g c = λ base p h.
    let header = c.args.header.now in
    let P = g.R.ThresholdRules.pressure in
    let N = g.R.ThresholdRules.normal in
    let turn = c.args.turn in
    same-both (turn_at header base p P N turn h (Tests c.args.at))
    (turn_at header base p P N turn h (Tests c.settled.result)) (turn_at header base p P N turn h c.after_test.result)
    (tests-same header base p P N turn h c.args.at c.settled.result c.settled.ensures.same)
    (c.after_test.ensures.same base p h)

pub returns-clause-ended : goal.returns-clause-ended
returns-clause-ended g c = λ ended base p h.
    let header = c.args.header.now in
    (tests-same header base p g.R.ThresholdRules.pressure g.R.ThresholdRules.normal c.args.turn h c.args.at
    c.settled.result c.settled.ensures.same [] No).1 (c.after_test.ensures.ended ended base p h)
