-- Each position settles as its own function says.
use Rattle.vms_cursors.specs.declared.rating_positions.RatingPosition.TheVariants.{Nodes, Numbers, States, Thresholds}
use Rattle.vms_cursors.specs.declared.rating_positions.RatingPosition.TheVariants.{Zones}
use Rattle.vms_cursors.proofs.RatingAlong.{rating-as, rating-both}
use Rattle.vms_cursors.proofs.rating_positions.RatingPosition.settled.Goals as goal

pub returns-in-States-clause-same : goal.returns-in-States-clause-same
returns-in-States-clause-same g c =
    let shape = c.args.layout.now in
    let P = g.R.ThresholdRules.pressure in
    let N = g.R.ThresholdRules.normal in
    let at = States c.in-States.online c.in-States.cpu in
    rating-both shape P N c.args.call c.args.self at (rating-as shape P N c.args.call c.args.self at c.in-States.is)
    c.settled_state.result c.settled_state.ensures.same

pub returns-in-Zones-clause-same : goal.returns-in-Zones-clause-same
returns-in-Zones-clause-same g c =
    let shape = c.args.layout.now in
    let P = g.R.ThresholdRules.pressure in
    let N = g.R.ThresholdRules.normal in
    let at = Zones c.in-Zones.seen c.in-Zones.zone in
    rating-both shape P N c.args.call c.args.self at (rating-as shape P N c.args.call c.args.self at c.in-Zones.is)
    c.settled_zone.result c.settled_zone.ensures.same

pub returns-in-Numbers-clause-same : goal.returns-in-Numbers-clause-same
returns-in-Numbers-clause-same g c =
    let shape = c.args.layout.now in
    let P = g.R.ThresholdRules.pressure in
    let N = g.R.ThresholdRules.normal in
    let at = Numbers c.in-Numbers.seen c.in-Numbers.zone c.in-Numbers.cpu in
    rating-both shape P N c.args.call c.args.self at (rating-as shape P N c.args.call c.args.self at c.in-Numbers.is)
    c.settled_number.result c.settled_number.ensures.same

pub returns-in-Thresholds-clause-same : goal.returns-in-Thresholds-clause-same
returns-in-Thresholds-clause-same g c =
    let shape = c.args.layout.now in
    let P = g.R.ThresholdRules.pressure in
    let N = g.R.ThresholdRules.normal in
    let at = Thresholds c.in-Thresholds.seen c.in-Thresholds.zone c.in-Thresholds.threshold c.in-Thresholds.cpu in
    rating-both shape P N c.args.call c.args.self at (rating-as shape P N c.args.call c.args.self at c.in-Thresholds.is)
    c.settled_threshold.result c.settled_threshold.ensures.same

pub returns-in-Nodes-clause-same : goal.returns-in-Nodes-clause-same
returns-in-Nodes-clause-same g c =
    let shape = c.args.layout.now in
    let P = g.R.ThresholdRules.pressure in
    let N = g.R.ThresholdRules.normal in
    let at = Nodes c.in-Nodes.seen c.in-Nodes.node c.in-Nodes.cpu in
    rating-both shape P N c.args.call c.args.self at (rating-as shape P N c.args.call c.args.self at c.in-Nodes.is)
    c.settled_node.result c.settled_node.ensures.same
