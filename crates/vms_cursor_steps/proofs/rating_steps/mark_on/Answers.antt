-- The call goes on from the load of the mark, as no CPU is left that was found online.
use Rattle.std.proofs.Common.{rules, ◌≡◌, ◌<◌, ◌≤◌, ◌+◌, ◌∙◌, [], length, arith, sym, subst}
use Rattle.std.specs.Prelude.{Some}
use Rattle.vms_cursors.specs.RatingClauses.{RatingSame, facts_with}
use Rattle.vms_cursors.specs.Ratings.{IsPositionWithin}
use Rattle.vms_cursors.specs.declared.rating_positions.RatingPosition.{RatingPosition}
use Rattle.vms_cursors.specs.declared.rating_positions.RatingPosition.TheVariants.{Asks, Numbers, Zones}
use Rattle.vms_cursors.proofs.RatingAlong.{rating-goes, rating-same}
use Rattle.vms_cursors.proofs.RatingGoes.{marks-ask, marks-due, marks-spare, numbers-same}
use Rattle.vms_cursor_steps.specs.RatingSteps.{RatesOn}
use Rattle.vms_cursor_steps.proofs.rating_steps.mark_on.Goals as goal

pub with-requires : goal.with-requires
with-requires g c = omega (
  arith,
  subst (λ (at : RatingPosition). IsPositionWithin c.args.layout.now at) c.in-Numbers.is c.requires.within,
  c.requires.layout.zones_most,
)

pub returns-then-spares-clause-goes : goal.returns-then-spares-clause-goes
returns-then-spares-clause-goes g c = λ yes.
    let shape = c.args.layout.now in
    let P = g.R.ThresholdRules.pressure in
    let N = g.R.ThresholdRules.normal in
    let seen = c.in-Numbers.seen in
    let zone = c.in-Numbers.zone in
    let last = shape.cpus in
    let long : length seen.thresholds ≡ 16 = search rules in
    let within : zone < length shape.zones =
    subst (λ (at : RatingPosition). IsPositionWithin shape at) c.in-Numbers.is c.requires.within in
    let most : shape.cpus ≤ last = omega arith in
    let same : RatingSame shape P N c.args.call (Numbers seen zone c.in-Numbers.cpu) (Numbers seen zone last) =
    rating-same shape P N c.args.call (Numbers seen zone c.in-Numbers.cpu) (Numbers seen zone last)
    (λ sizes base p h. numbers-same (facts_with shape sizes base) p P N c.args.call h seen zone c.in-Numbers.cpu last
    (c.is_over.ensures c.if-not-is_over.false)) in
    subst (λ (at : RatingPosition). RatesOn shape P N c.args.call at c.args.step.now (Zones c.with.result (zone + 1)))
    (sym c.in-Numbers.is) (record {
      goes = rating-goes shape P N c.args.call (Numbers seen zone c.in-Numbers.cpu) (Numbers seen zone last) same
          c.args.step.now (Some (Zones c.with.result (zone + 1)))
          (λ sizes base p h. marks-spare (facts_with shape sizes base) p P N c.args.call h seen zone last most
          c.args.step.now c.in-Some.read c.in-Some.ensures (sym c.spares.ensures ∙ c.if-spares.true) c.with.result
          (omega (arith, long, within, c.requires.layout.zones_most)) c.with.ensures.online c.with.ensures.thresholds);
      unended = λ sizes base p h answer ended.
          (marks-due (facts_with shape sizes base) p P N c.args.call h seen zone last most).1 answer
          ((same sizes base p h [] answer).0 ended);
    })

pub returns-else-spares-clause-goes : goal.returns-else-spares-clause-goes
returns-else-spares-clause-goes g c = λ yes.
    let shape = c.args.layout.now in
    let P = g.R.ThresholdRules.pressure in
    let N = g.R.ThresholdRules.normal in
    let seen = c.in-Numbers.seen in
    let zone = c.in-Numbers.zone in
    let last = shape.cpus in
    let most : shape.cpus ≤ last = omega arith in
    let same : RatingSame shape P N c.args.call (Numbers seen zone c.in-Numbers.cpu) (Numbers seen zone last) =
    rating-same shape P N c.args.call (Numbers seen zone c.in-Numbers.cpu) (Numbers seen zone last)
    (λ sizes base p h. numbers-same (facts_with shape sizes base) p P N c.args.call h seen zone c.in-Numbers.cpu last
    (c.is_over.ensures c.if-not-is_over.false)) in
    subst (λ (at : RatingPosition). RatesOn shape P N c.args.call at c.args.step.now
    (Asks seen zone c.in-Some.read.mark)) (sym c.in-Numbers.is) (record {
      goes = rating-goes shape P N c.args.call (Numbers seen zone c.in-Numbers.cpu) (Numbers seen zone last) same
          c.args.step.now (Some (Asks seen zone c.in-Some.read.mark))
          (λ sizes base p h. marks-ask (facts_with shape sizes base) p P N c.args.call h seen zone last most
          c.args.step.now c.in-Some.read c.in-Some.ensures (sym c.spares.ensures ∙ c.if-spares.false));
      unended = λ sizes base p h answer ended.
          (marks-due (facts_with shape sizes base) p P N c.args.call h seen zone last most).1 answer
          ((same sizes base p h [] answer).0 ended);
    })
