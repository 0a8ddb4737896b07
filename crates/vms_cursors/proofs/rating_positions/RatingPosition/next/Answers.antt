-- How the settled position goes on.
use Rattle.vms_cursors.proofs.RatingAlong.{rating-goes, rating-stops}
use Rattle.vms_cursors.proofs.rating_positions.RatingPosition.next.Goals as goal

pub returns-clause-goes : goal.returns-clause-goes
returns-clause-goes g c = rating-goes c.args.layout.now g.R.ThresholdRules.pressure g.R.ThresholdRules.normal
    c.args.call c.args.self c.settled.result c.settled.ensures.same c.args.step c.settled_next.result
    c.settled_next.ensures.goes

pub returns-clause-stops : goal.returns-clause-stops
returns-clause-stops g c = λ none.
    rating-stops c.args.layout.now g.R.ThresholdRules.pressure g.R.ThresholdRules.normal c.args.call
    c.args.self c.settled.result c.settled.ensures.same c.args.step (c.settled_next.ensures.stops none)
