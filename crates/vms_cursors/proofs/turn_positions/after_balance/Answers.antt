-- The turn goes on as the balance test does, and stops where that has ended.
use Rattle.std.proofs.Common.{subst, sym}
use Rattle.vms_cursors.specs.Balances.{IsBalanceEnded, IsUnpassed}
use Rattle.vms_cursors.specs.Cursors.{Stops}
use Rattle.vms_cursors.specs.Turns.{turn_at}
use Rattle.vms_cursors.specs.declared.turn_positions.TurnPosition.TheVariants.{Tests}
use Rattle.vms_cursors.proofs.BalanceGoes.{balance-unended}
use Rattle.vms_cursors.proofs.TurnGoes.{failed-stops, tests-go, tests-stop}
use Rattle.vms_cursors.proofs.turn_positions.after_balance.Goals as goal

pub returns-in-Ended-clause-stops : goal.returns-in-Ended-clause-stops
returns-in-Ended-clause-stops g c = λ none base p h.
    let header = c.args.header.now in
    let P = g.R.ThresholdRules.pressure in
    let N = g.R.ThresholdRules.normal in
    subst (λ s. Stops (turn_at header base p P N c.args.turn h (Tests s)) c.args.step) (sym c.in-Ended.is)
    (failed-stops header base p P N c.args.turn h c.in-Ended.field-0 c.args.step
    (subst IsUnpassed c.in-Ended.is c.requires.settled.1))

pub returns-in-Some-clause-goes : goal.returns-in-Some-clause-goes
returns-in-Some-clause-goes g c = λ base p h.
    let header = c.args.header.now in
    tests-go header base p g.R.ThresholdRules.pressure g.R.ThresholdRules.normal c.args.turn h c.args.at
    (balance-unended header c.args.turn c.args.at c.requires.settled.0
    (λ ended. subst IsBalanceEnded c.in-Zone.is ended)) c.args.step c.in-Some.later c.in-Some.ensures.goes

pub returns-in-None-clause-stops : goal.returns-in-None-clause-stops
returns-in-None-clause-stops g c = λ none base p h.
    let header = c.args.header.now in
    tests-stop header base p g.R.ThresholdRules.pressure g.R.ThresholdRules.normal c.args.turn h c.args.at
    (balance-unended header c.args.turn c.args.at c.requires.settled.0
    (λ ended. subst IsBalanceEnded c.in-Zone.is ended)) c.args.step (c.in-None.ensures.stops none)
