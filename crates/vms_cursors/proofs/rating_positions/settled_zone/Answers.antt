-- The next zone is visited, or there is none.
use Rattle.std.proofs.Common.{◌<◌, ◌∙◌, length, ap, arith}
use Rattle.vms_cursors.specs.declared.rating_positions.RatingPosition.TheVariants.{Numbers, Zones}
use Rattle.vms_cursors.specs.RatingClauses.{facts_with}
use Rattle.vms_cursors.proofs.RatingPlans.{zones-are_numbers, zones-skipped}
use Rattle.vms_cursors.proofs.RatingAlong.{rating-both, rating-same}
use Rattle.vms_cursors.proofs.rating_positions.settled_zone.Goals as goal

pub settled_end-requires-clause-zone : goal.settled_end-requires-clause-zone
settled_end-requires-clause-zone g c =
    omega (arith, c.next_zone-zone.ensures.most, c.if-zone-zones.false, ap length c.zones.ensures.value)

pub returns-then-zone-zones-clause-same : goal.returns-then-zone-zones-clause-same
returns-then-zone-zones-clause-same g c =
    let shape = c.args.layout.now in
    let P = g.R.ThresholdRules.pressure in
    let N = g.R.ThresholdRules.normal in
    let zone = c.next_zone-zone.result in
    let at = Zones c.args.seen c.args.from in
    let less : zone < length shape.zones = omega (arith, c.if-zone-zones.true, ap length c.zones.ensures.value) in
    rating-both shape P N c.args.call at (Numbers c.args.seen zone 0)
    (rating-same shape P N c.args.call at (Numbers c.args.seen zone 0) (λ sizes base p h.
    zones-skipped (facts_with shape sizes base) p P N c.args.call h c.args.seen c.args.from zone
    c.next_zone-zone.ensures.none c.next_zone-zone.ensures.least c.next_zone-zone.ensures.same
    ∙ zones-are_numbers (facts_with shape sizes base) p P N c.args.call h c.args.seen zone less
    (c.next_zone-zone.ensures.some less)))
    c.settled_number.result c.settled_number.ensures.same

pub returns-clause-same : goal.returns-clause-same
returns-clause-same g c =
    let shape = c.args.layout.now in
    let P = g.R.ThresholdRules.pressure in
    let N = g.R.ThresholdRules.normal in
    let zone = c.next_zone-zone.result in
    let at = Zones c.args.seen c.args.from in
    rating-both shape P N c.args.call at (Zones c.args.seen zone)
    (rating-same shape P N c.args.call at (Zones c.args.seen zone) (λ sizes base p h.
    zones-skipped (facts_with shape sizes base) p P N c.args.call h c.args.seen c.args.from zone
    c.next_zone-zone.ensures.none c.next_zone-zone.ensures.least c.next_zone-zone.ensures.same))
    c.settled_end.result c.settled_end.ensures.same
