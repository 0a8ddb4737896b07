-- The balance test goes on, or it has answered.
use Rattle.std.proofs.Common.{subst, sym}
use Rattle.vms_cursors.specs.Balances.{IsUnpassed}
use Rattle.vms_cursors.specs.TurnClauses.{TurnEnded, TurnSame}
use Rattle.vms_cursors.specs.declared.turn_positions.TurnPosition.TheVariants.{Tests}
use Rattle.vms_cursors.proofs.turn_positions.after_test.Goals as goal

pub returns-in-Ended-clause-same : goal.returns-in-Ended-clause-same
returns-in-Ended-clause-same g c = subst (λ s. TurnSame c.args.header.now g.R.ThresholdRules.pressure
    g.R.ThresholdRules.normal c.args.turn (Tests s) c.after_answer.result) (sym c.in-Ended.is)
    c.after_answer.ensures.same

pub returns-in-Ended-clause-ended : goal.returns-in-Ended-clause-ended
returns-in-Ended-clause-ended g c = λ ended.
    subst (λ s. TurnEnded c.args.header.now g.R.ThresholdRules.pressure g.R.ThresholdRules.normal c.args.turn (Tests s))
    (sym c.in-Ended.is) (c.after_answer.ensures.ended ended)

pub returns-in-Zone-clause-same : goal.returns-in-Zone-clause-same
returns-in-Zone-clause-same g c = λ base p h steps answer. ((λ run. run), (λ run. run))

pub returns-in-Zone-clause-settled : goal.returns-in-Zone-clause-settled
returns-in-Zone-clause-settled g c = (c.requires.settled, subst IsUnpassed (sym c.in-Zone.is) (tt {0}))
