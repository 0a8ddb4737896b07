-- What is due at the settled position.
use Rattle.vms_cursors.proofs.RatingAlong.{rating-due, rating-ended}
use Rattle.vms_cursors.proofs.rating_positions.RatingPosition.due.Goals as goal

pub returns-clause-due : goal.returns-clause-due
returns-clause-due g c = rating-due c.args.layout.now g.R.ThresholdRules.pressure g.R.ThresholdRules.normal c.args.call
    c.args.self c.settled.result c.settled.ensures.same c.settled_due.result c.settled_due.ensures.due

pub returns-clause-ended : goal.returns-clause-ended
returns-clause-ended g c = λ none.
    rating-ended c.args.layout.now g.R.ThresholdRules.pressure g.R.ThresholdRules.normal c.args.call
    c.args.self c.settled.result c.settled.ensures.same (c.settled_due.ensures.ended none)
