-- A refresh goes on to the nodes.
use Rattle.std.proofs.Common.{◌≤◌, refl, subst, sym, length, arith}
use Rattle.vms_cursors.specs.RatingClauses.{RatingSame, facts_with}
use Rattle.vms_cursors.specs.declared.rating_calls.RatingCall.{RatingCall}
use Rattle.vms_cursors.specs.declared.rating_calls.RatingCall.TheVariants.{Refresh}
use Rattle.vms_cursors.specs.declared.rating_positions.RatingPosition.TheVariants.{Nodes, Zones}
use Rattle.vms_cursors.proofs.RatingPlans.{zones-are_nodes}
use Rattle.vms_cursors.proofs.RatingAlong.{rating-as, rating-both, rating-same}
use Rattle.vms_cursors.proofs.rating_positions.settled_end.Goals as goal

pub returns-in-Refresh-clause-same : goal.returns-in-Refresh-clause-same
returns-in-Refresh-clause-same g c =
    let shape = c.args.layout.now in
    let P = g.R.ThresholdRules.pressure in
    let N = g.R.ThresholdRules.normal in
    let at = Zones c.args.seen c.args.zone in
    let most : c.args.zone ≤ length shape.zones = omega (arith, c.requires.zone) in
    let least : length shape.zones ≤ c.args.zone = omega (arith, c.requires.zone) in
    subst (λ (call : RatingCall). RatingSame shape P N call at c.settled_node.result) (sym c.in-Refresh.is)
    (rating-both shape P N Refresh at (Nodes c.args.seen 0 0)
    (rating-same shape P N Refresh at (Nodes c.args.seen 0 0) (λ sizes base p h.
    zones-are_nodes (facts_with shape sizes base) p P N h c.args.seen c.args.zone most least))
    c.settled_node.result
    (subst (λ (call : RatingCall). RatingSame shape P N call (Nodes c.args.seen 0 0) c.settled_node.result)
    c.in-Refresh.is c.settled_node.ensures.same))

pub returns-in-Pressure-clause-same : goal.returns-in-Pressure-clause-same
returns-in-Pressure-clause-same g c = rating-as c.args.layout.now g.R.ThresholdRules.pressure
    g.R.ThresholdRules.normal c.args.call (Zones c.args.seen c.args.zone) (Zones c.args.seen c.args.zone) refl

pub returns-in-Normal-clause-same : goal.returns-in-Normal-clause-same
returns-in-Normal-clause-same g c = rating-as c.args.layout.now g.R.ThresholdRules.pressure
    g.R.ThresholdRules.normal c.args.call (Zones c.args.seen c.args.zone) (Zones c.args.seen c.args.zone) refl
