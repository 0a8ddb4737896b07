-- The call goes on from the next CPU that was found online.
use Rattle.std.proofs.Common.{rules, ◌≡◌, ◌+◌, ◌∙◌, [], ◌∷◌, ap, sym, subst, length, arith}
use Rattle.std.specs.Prelude.{Some, slice_set}
use Rattle.vms_calls.specs.Common.{CpuId, PlaceId, SetT, after}
use Rattle.vms_cursors.specs.RatingClauses.{RatingSame, facts_with}
use Rattle.vms_cursors.specs.Ratings.{rating_at}
use Rattle.vms_cursors.specs.declared.rating_positions.RatingPosition.{RatingPosition}
use Rattle.vms_cursors.specs.declared.rating_positions.RatingPosition.TheVariants.{Numbers, States, Thresholds}
use Rattle.vms_cursors.proofs.RatingAlong.{rating-goes, rating-same}
use Rattle.vms_cursors.proofs.RatingGoes.{known-due, known-goes, numbers-due, numbers-goes, numbers-same, states-due}
use Rattle.vms_cursors.proofs.RatingGoes.{states-goes, threshold-is, thresholds-same}
use Rattle.vms_cursors.proofs.StepReadings.{set_threshold-read}
use Rattle.vms_cursor_steps.specs.RatingSteps.{RatesOn}
use Rattle.vms_cursor_steps.proofs.rating_steps.cpu_on.Goals as goal

pub returns-in-Some-clause-goes : goal.returns-in-Some-clause-goes
returns-in-Some-clause-goes g c = λ yes.
    let shape = c.args.layout.now in
    let P = g.R.ThresholdRules.pressure in
    let N = g.R.ThresholdRules.normal in
    let online = c.in-States.online in
    let cpu = c.in-States.cpu in
    let less = c.in-Some.ensures.0 in
    let long : length online.flags ≡ 128 = search rules in
    subst (λ (at : RatingPosition). RatesOn shape P N c.args.call at c.args.step.now (States c.with.result (cpu + 1)))
    (sym c.in-States.is) (record {
      goes = λ sizes base p h.
          states-goes (facts_with shape sizes base) p P N c.args.call h online cpu less c.args.step.now c.with.result
          c.in-Some.ensures.1
          (c.with.ensures ∙ ap (λ b. slice_set online.flags cpu b) c.in-Some.ensures.3)
          (omega (arith, long, less, c.requires.layout.cpus_most)) c.in-Some.ensures.2;
      unended = λ sizes base p h. (states-due (facts_with shape sizes base) p P N c.args.call h online cpu less).1;
    })

pub returns-in-Some-acknowledged-clause-goes : goal.returns-in-Some-acknowledged-clause-goes
returns-in-Some-acknowledged-clause-goes g c = λ yes.
    let shape = c.args.layout.now in
    let P = g.R.ThresholdRules.pressure in
    let N = g.R.ThresholdRules.normal in
    let seen = c.in-Numbers.seen in
    let zone = c.in-Numbers.zone in
    let of = c.in-Some-acknowledged.of in
    let next = c.in-Some-acknowledged.ensures.0 in
    let same : RatingSame shape P N c.args.call (Numbers seen zone c.in-Numbers.cpu) (Numbers seen zone of) =
    rating-same shape P N c.args.call (Numbers seen zone c.in-Numbers.cpu) (Numbers seen zone of)
    (λ sizes base p h. numbers-same (facts_with shape sizes base) p P N c.args.call h seen zone c.in-Numbers.cpu of
    next.same) in
    subst (λ (at : RatingPosition). RatesOn shape P N c.args.call at c.args.step.now (Numbers seen zone (of + 1)))
    (sym c.in-Numbers.is) (record {
      goes = rating-goes shape P N c.args.call (Numbers seen zone c.in-Numbers.cpu) (Numbers seen zone of) same
          c.args.step.now (Some (Numbers seen zone (of + 1)))
          (λ sizes base p h. numbers-goes (facts_with shape sizes base) p P N c.args.call h seen zone of next.less
          next.on c.args.step.now c.in-Some-acknowledged.ensures.1.0 c.in-Some-acknowledged.ensures.1.1);
      unended = λ sizes base p h answer ended.
          (numbers-due (facts_with shape sizes base) p P N c.args.call h seen zone of next.less next.on).1 answer
          ((same sizes base p h [] answer).0 ended);
    })

pub returns-in-Some-set_on-clause-goes : goal.returns-in-Some-set_on-clause-goes
returns-in-Some-set_on-clause-goes g c = λ yes.
    let shape = c.args.layout.now in
    let P = g.R.ThresholdRules.pressure in
    let N = g.R.ThresholdRules.normal in
    let seen = c.in-Thresholds.seen in
    let zone = c.in-Thresholds.zone in
    let t = c.in-Thresholds.threshold in
    let of = c.in-Some-set_on.of in
    let next = c.in-Some-set_on.ensures.0 in
    let cpu_id : CpuId = record { number = of } in
    let place : PlaceId = record { number = zone } in
    let same : RatingSame shape P N c.args.call (Thresholds seen zone t c.in-Thresholds.cpu)
    (Thresholds seen zone t of) =
    rating-same shape P N c.args.call (Thresholds seen zone t c.in-Thresholds.cpu) (Thresholds seen zone t of)
    (λ sizes base p h. thresholds-same (facts_with shape sizes base) p P N c.args.call h seen zone c.in-Thresholds.cpu
    t of next.same) in
    subst (λ (at : RatingPosition). RatesOn shape P N c.args.call at c.args.step.now (Thresholds seen zone t (of + 1)))
    (sym c.in-Thresholds.is) (record {
      goes = rating-goes shape P N c.args.call (Thresholds seen zone t c.in-Thresholds.cpu) (Thresholds seen zone t of)
          same c.args.step.now (Some (Thresholds seen zone t (of + 1)))
          (λ sizes base p h. known-goes
          (rating_at (facts_with shape sizes base) p P N c.args.call h (Thresholds seen zone t of))
          (SetT cpu_id place t)
          (λ s. rating_at (facts_with shape sizes base) p P N c.args.call (after p (s ∷ []) h)
          (Thresholds seen zone t (of + 1)))
          (threshold-is (facts_with shape sizes base) p P N c.args.call h seen zone of t next.less next.on)
          c.args.step.now (set_threshold-read cpu_id place c.args.step.now t c.in-Some-set_on.ensures.1));
      unended = λ sizes base p h answer ended.
          (known-due (rating_at (facts_with shape sizes base) p P N c.args.call h (Thresholds seen zone t of))
          (SetT cpu_id place t)
          (λ s. rating_at (facts_with shape sizes base) p P N c.args.call (after p (s ∷ []) h)
          (Thresholds seen zone t (of + 1)))
          (threshold-is (facts_with shape sizes base) p P N c.args.call h seen zone of t next.less next.on)).1 answer
          ((same sizes base p h [] answer).0 ended);
    })
