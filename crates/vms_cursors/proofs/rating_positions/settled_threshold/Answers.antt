-- The next CPU that is online, or the next zone.
use Rattle.std.proofs.Common.{rules, ◌≡◌, ◌-◌, ◌+◌, ◌≤◌, length, subst, arith}
use Rattle.vms_cursors.specs.OnlineCpus.{flagged}
use Rattle.vms_cursors.specs.declared.rating_positions.RatingPosition.TheVariants.{Thresholds, Zones}
use Rattle.vms_cursors.specs.RatingClauses.{facts_with}
use Rattle.vms_cursors.proofs.RatingGoes.{thresholds-over, thresholds-same}
use Rattle.vms_cursors.proofs.RatingAlong.{rating-both, rating-same}
use Rattle.vms_cursors.proofs.rating_positions.settled_threshold.Goals as goal

pub with-requires : goal.with-requires
with-requires g c = omega (arith, c.requires.within, c.requires.layout.zones_most)

pub returns-then-cpu-cpus-clause-same : goal.returns-then-cpu-cpus-clause-same
returns-then-cpu-cpus-clause-same g c =
    let shape = c.args.layout.now in
    let P = g.R.ThresholdRules.pressure in
    let N = g.R.ThresholdRules.normal in
    let fl = c.args.seen.online.flags in
    let d = c.next-cpu.result in
    let same = subst (λ n. flagged fl c.args.from (n - c.args.from) ≡ flagged fl d (n - d)) c.cpus-cpus.ensures.value
    c.next-cpu.ensures.same in
    rating-same shape P N c.args.call (Thresholds c.args.seen c.args.zone c.args.threshold c.args.from)
    (Thresholds c.args.seen c.args.zone c.args.threshold d)
    (λ sizes base p h. thresholds-same (facts_with shape sizes base) p P N c.args.call h c.args.seen c.args.zone
    c.args.from c.args.threshold d same)

pub returns-clause-same : goal.returns-clause-same
returns-clause-same g c =
    let shape = c.args.layout.now in
    let P = g.R.ThresholdRules.pressure in
    let N = g.R.ThresholdRules.normal in
    let fl = c.args.seen.online.flags in
    let d = c.next-cpu.result in
    let at = Thresholds c.args.seen c.args.zone c.args.threshold c.args.from in
    let zones = Zones c.with.result (c.args.zone + 1) in
    let long : length c.args.seen.thresholds ≡ 16 = search rules in
    let most : shape.cpus ≤ d = omega (arith, c.if-cpu-cpus.false, c.cpus-cpus.ensures.value) in
    let same = subst (λ n. flagged fl c.args.from (n - c.args.from) ≡ flagged fl d (n - d)) c.cpus-cpus.ensures.value
    c.next-cpu.ensures.same in
    rating-both shape P N c.args.call at zones
    (rating-same shape P N c.args.call at zones (λ sizes base p h.
    thresholds-over (facts_with shape sizes base) p P N c.args.call h c.args.seen c.args.zone c.args.from
    c.args.threshold c.with.result d most same (omega (arith, long, c.requires.within, c.requires.layout.zones_most))
    c.with.ensures.online c.with.ensures.thresholds))
    c.settled_zone.result c.settled_zone.ensures.same
