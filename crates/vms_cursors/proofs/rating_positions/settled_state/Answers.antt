-- All states are loaded.
use Rattle.std.proofs.Common.{◌≤◌, ap, refl, arith}
use Rattle.vms_cursors.specs.declared.rating_positions.RatingPosition.TheVariants.{States, Zones}
use Rattle.vms_cursors.proofs.RatingPlans.{states-are_zones}
use Rattle.vms_cursors.proofs.RatingAlong.{rating-both, rating-same, rating-as}
use Rattle.vms_cursors.specs.RatingClauses.{facts_with}
use Rattle.vms_cursors.proofs.rating_positions.settled_state.Goals as goal

pub returns-then-cpu-cpus-clause-same : goal.returns-then-cpu-cpus-clause-same
returns-then-cpu-cpus-clause-same g c = rating-as c.args.layout.now g.R.ThresholdRules.pressure
    g.R.ThresholdRules.normal c.args.call (States c.args.online c.args.cpu) (States c.args.online c.args.cpu) refl

pub returns-clause-same : goal.returns-clause-same
returns-clause-same g c =
    let shape = c.args.layout.now in
    let P = g.R.ThresholdRules.pressure in
    let N = g.R.ThresholdRules.normal in
    let at = States c.args.online c.args.cpu in
    let zones = Zones c.begin.result 0 in
    let least : shape.cpus ≤ c.args.cpu = omega (arith, c.if-cpu-cpus.false, c.cpus-cpus.ensures.value) in
    rating-both shape P N c.args.call at zones
    (rating-same shape P N c.args.call at zones (λ sizes base p h.
    states-are_zones (facts_with shape sizes base) p P N c.args.call h c.args.online.flags c.args.cpu c.begin.result
    c.requires.within least (ap (λ o. o.flags) c.begin.ensures)))
    c.settled_zone.result c.settled_zone.ensures.same
