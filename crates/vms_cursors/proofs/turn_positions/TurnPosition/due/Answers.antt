-- What is due at the settled position.
use Rattle.vms_cursors.proofs.TurnGoes.{turn-due}
use Rattle.vms_cursors.proofs.turn_positions.TurnPosition.due.Goals as goal

pub returns-clause-due : goal.returns-clause-due
returns-clause-due g c = turn-due c.args.header.now g.R.ThresholdRules.pressure g.R.ThresholdRules.normal c.args.turn
    c.args.self c.settled.result c.settled.ensures.same c.settled_due.result c.settled_due.ensures.due

pub returns-clause-ended : goal.returns-clause-ended
returns-clause-ended g c = λ none. c.settled.ensures.ended (c.settled_due.ensures.ended none)
