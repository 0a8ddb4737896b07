-- How the settled position goes on.
use Rattle.vms_cursors.proofs.TurnGoes.{turn-goes, turn-stops}
use Rattle.vms_cursors.proofs.turn_positions.TurnPosition.next.Goals as goal

pub returns-clause-goes : goal.returns-clause-goes
returns-clause-goes g c = turn-goes c.args.header.now g.R.ThresholdRules.pressure g.R.ThresholdRules.normal
    c.args.turn c.args.self c.settled.result c.settled.ensures.same c.args.step c.settled_next.result
    c.settled_next.ensures.goes

pub returns-clause-stops : goal.returns-clause-stops
returns-clause-stops g c = λ none.
    turn-stops c.args.header.now g.R.ThresholdRules.pressure g.R.ThresholdRules.normal c.args.turn c.args.self
    c.settled.result c.settled.ensures.same c.args.step (c.settled_next.ensures.stops none)
