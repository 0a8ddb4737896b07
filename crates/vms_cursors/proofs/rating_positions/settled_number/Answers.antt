-- The next CPU that is online.
use Rattle.std.proofs.Common.{◌≡◌, ◌-◌, subst, arith}
use Rattle.vms_cursors.specs.OnlineCpus.{flagged}
use Rattle.vms_cursors.specs.declared.rating_positions.RatingPosition.TheVariants.{Numbers}
use Rattle.vms_cursors.specs.RatingClauses.{facts_with}
use Rattle.vms_cursors.proofs.RatingGoes.{numbers-same}
use Rattle.vms_cursors.proofs.RatingAlong.{rating-same}
use Rattle.vms_cursors.proofs.rating_positions.settled_number.Goals as goal

pub returns-clause-same : goal.returns-clause-same
returns-clause-same g c =
    let shape = c.args.layout.now in
    let P = g.R.ThresholdRules.pressure in
    let N = g.R.ThresholdRules.normal in
    let fl = c.args.seen.online.flags in
    let d = c.next-cpu.result in
    let same = subst (λ n. flagged fl c.args.from (n - c.args.from) ≡ flagged fl d (n - d)) c.cpus.ensures.value
    c.next-cpu.ensures.same in
    rating-same shape P N c.args.call (Numbers c.args.seen c.args.zone c.args.from) (Numbers c.args.seen c.args.zone d)
    (λ sizes base p h. numbers-same (facts_with shape sizes base) p P N c.args.call h c.args.seen c.args.zone
    c.args.from d same)

pub returns-clause-settled : goal.returns-clause-settled
returns-clause-settled g c = λ less. c.next-cpu.ensures.some (omega (arith, less, c.cpus.ensures.value))
