-- How each position goes on.
use Rattle.std.proofs.Common.{subst}
use Rattle.vms_plans.specs.Common.{ends}
use Rattle.vms_cursors.specs.RatingClauses.{facts_with}
use Rattle.vms_cursors.specs.Ratings.{IsPositionWithin, IsSettled, rating_at}
use Rattle.vms_cursors.specs.declared.rating_positions.RatingPosition.TheVariants.{Mark, Nodes, Numbers, States}
use Rattle.vms_cursors.specs.declared.rating_positions.RatingPosition.TheVariants.{Thresholds, Zones}
use Rattle.vms_cursors.proofs.Goes.{ends-stops}
use Rattle.vms_cursors.proofs.PlanEquations.{stops-along}
use Rattle.vms_cursors.proofs.RatingAlong.{rating-as, rating-goes, rating-stops}
use Rattle.vms_cursors.proofs.RatingPlans.{zones-ended}
use Rattle.vms_cursors.proofs.rating_positions.settled_next.Goals as goal

pub returns-in-States-clause-goes : goal.returns-in-States-clause-goes
returns-in-States-clause-goes g c =
    let shape = c.args.layout.now in
    let P = g.R.ThresholdRules.pressure in
    let N = g.R.ThresholdRules.normal in
    let at = States c.in-States.online c.in-States.cpu in
    rating-goes shape P N c.args.call c.args.position at (rating-as shape P N c.args.call c.args.position at
    c.in-States.is)
    c.args.step c.after_state.result c.after_state.ensures.goes

pub returns-in-States-clause-stops : goal.returns-in-States-clause-stops
returns-in-States-clause-stops g c = λ none.
    let shape = c.args.layout.now in
    let P = g.R.ThresholdRules.pressure in
    let N = g.R.ThresholdRules.normal in
    let at = States c.in-States.online c.in-States.cpu in
    rating-stops shape P N c.args.call c.args.position at (rating-as shape P N c.args.call c.args.position at
    c.in-States.is)
    c.args.step (c.after_state.ensures.stops none)

pub returns-in-Numbers-clause-goes : goal.returns-in-Numbers-clause-goes
returns-in-Numbers-clause-goes g c =
    let shape = c.args.layout.now in
    let P = g.R.ThresholdRules.pressure in
    let N = g.R.ThresholdRules.normal in
    let at = Numbers c.in-Numbers.seen c.in-Numbers.zone c.in-Numbers.cpu in
    rating-goes shape P N c.args.call c.args.position at (rating-as shape P N c.args.call c.args.position at
    c.in-Numbers.is)
    c.args.step c.after_number.result c.after_number.ensures.goes

pub returns-in-Numbers-clause-stops : goal.returns-in-Numbers-clause-stops
returns-in-Numbers-clause-stops g c = λ none.
    let shape = c.args.layout.now in
    let P = g.R.ThresholdRules.pressure in
    let N = g.R.ThresholdRules.normal in
    let at = Numbers c.in-Numbers.seen c.in-Numbers.zone c.in-Numbers.cpu in
    rating-stops shape P N c.args.call c.args.position at (rating-as shape P N c.args.call c.args.position at
    c.in-Numbers.is)
    c.args.step (c.after_number.ensures.stops none)

pub returns-in-Mark-clause-goes : goal.returns-in-Mark-clause-goes
returns-in-Mark-clause-goes g c =
    let shape = c.args.layout.now in
    let P = g.R.ThresholdRules.pressure in
    let N = g.R.ThresholdRules.normal in
    let at = Mark c.in-Mark.seen c.in-Mark.zone c.in-Mark.threshold c.in-Mark.mark in
    rating-goes shape P N c.args.call c.args.position at (rating-as shape P N c.args.call c.args.position
    at c.in-Mark.is)
    c.args.step c.after_set_mark.result c.after_set_mark.ensures.goes

pub returns-in-Mark-clause-stops : goal.returns-in-Mark-clause-stops
returns-in-Mark-clause-stops g c = λ none.
    let shape = c.args.layout.now in
    let P = g.R.ThresholdRules.pressure in
    let N = g.R.ThresholdRules.normal in
    let at = Mark c.in-Mark.seen c.in-Mark.zone c.in-Mark.threshold c.in-Mark.mark in
    rating-stops shape P N c.args.call c.args.position at (rating-as shape P N c.args.call c.args.position
    at c.in-Mark.is)
    c.args.step (c.after_set_mark.ensures.stops none)

pub returns-in-Thresholds-clause-goes : goal.returns-in-Thresholds-clause-goes
returns-in-Thresholds-clause-goes g c =
    let shape = c.args.layout.now in
    let P = g.R.ThresholdRules.pressure in
    let N = g.R.ThresholdRules.normal in
    let at = Thresholds c.in-Thresholds.seen c.in-Thresholds.zone c.in-Thresholds.threshold c.in-Thresholds.cpu in
    rating-goes shape P N c.args.call c.args.position at (rating-as shape P N c.args.call c.args.position at
    c.in-Thresholds.is)
    c.args.step c.after_threshold.result c.after_threshold.ensures.goes

pub returns-in-Thresholds-clause-stops : goal.returns-in-Thresholds-clause-stops
returns-in-Thresholds-clause-stops g c = λ none.
    let shape = c.args.layout.now in
    let P = g.R.ThresholdRules.pressure in
    let N = g.R.ThresholdRules.normal in
    let at = Thresholds c.in-Thresholds.seen c.in-Thresholds.zone c.in-Thresholds.threshold c.in-Thresholds.cpu in
    rating-stops shape P N c.args.call c.args.position at (rating-as shape P N c.args.call c.args.position at
    c.in-Thresholds.is)
    c.args.step (c.after_threshold.ensures.stops none)

pub returns-in-Nodes-clause-goes : goal.returns-in-Nodes-clause-goes
returns-in-Nodes-clause-goes g c =
    let shape = c.args.layout.now in
    let P = g.R.ThresholdRules.pressure in
    let N = g.R.ThresholdRules.normal in
    let at = Nodes c.in-Nodes.seen c.in-Nodes.node c.in-Nodes.cpu in
    rating-goes shape P N c.args.call c.args.position at (rating-as shape P N c.args.call c.args.position at
    c.in-Nodes.is)
    c.args.step c.after_node.result c.after_node.ensures.goes

pub returns-in-Nodes-clause-stops : goal.returns-in-Nodes-clause-stops
returns-in-Nodes-clause-stops g c = λ none.
    let shape = c.args.layout.now in
    let P = g.R.ThresholdRules.pressure in
    let N = g.R.ThresholdRules.normal in
    let at = Nodes c.in-Nodes.seen c.in-Nodes.node c.in-Nodes.cpu in
    rating-stops shape P N c.args.call c.args.position at (rating-as shape P N c.args.call c.args.position at
    c.in-Nodes.is)
    c.args.step (c.after_node.ensures.stops none)

pub after_state-requires-clause-cpu : goal.after_state-requires-clause-cpu
after_state-requires-clause-cpu g c = subst (IsSettled c.args.layout.now c.args.call) c.in-States.is c.requires.settled

pub after_number-requires-clause-settled : goal.after_number-requires-clause-settled
after_number-requires-clause-settled g c = subst (IsSettled c.args.layout.now c.args.call) c.in-Numbers.is
    c.requires.settled

pub after_node-requires-clause-settled : goal.after_node-requires-clause-settled
after_node-requires-clause-settled g c = subst (IsSettled c.args.layout.now c.args.call) c.in-Nodes.is
    c.requires.settled

pub after_threshold-requires-clause-cpu : goal.after_threshold-requires-clause-cpu
after_threshold-requires-clause-cpu g c =
    let settled = subst (IsSettled c.args.layout.now c.args.call) c.in-Thresholds.is c.requires.settled in settled.0

pub after_threshold-requires-clause-online : goal.after_threshold-requires-clause-online
after_threshold-requires-clause-online g c =
    let settled = subst (IsSettled c.args.layout.now c.args.call) c.in-Thresholds.is c.requires.settled in settled.1

pub returns-in-Zones-clause-stops : goal.returns-in-Zones-clause-stops
returns-in-Zones-clause-stops g c = λ none.
    let shape = c.args.layout.now in
    let P = g.R.ThresholdRules.pressure in
    let N = g.R.ThresholdRules.normal in
    let at = Zones c.in-Zones.field-0 c.in-Zones.field-1 in
    let settled = subst (IsSettled shape c.args.call) c.in-Zones.is c.requires.settled in
    let within = subst (IsPositionWithin shape) c.in-Zones.is c.requires.within in
    rating-stops shape P N c.args.call c.args.position at (rating-as shape P N c.args.call c.args.position at
    c.in-Zones.is)
    c.args.step
    (λ sizes base p h. stops-along (ends (tt {0})) (rating_at (facts_with shape sizes base) p P N c.args.call h at)
    c.args.step (zones-ended (facts_with shape sizes base) p P N h c.in-Zones.field-0 c.in-Zones.field-1
    within settled.0
    c.args.call settled.1) (ends-stops (tt {0}) c.args.step))

pub returns-in-Asks-clause-stops : goal.returns-in-Asks-clause-stops
returns-in-Asks-clause-stops g c = absurd (subst (IsSettled c.args.layout.now c.args.call) c.in-Asks.is
    c.requires.settled)
