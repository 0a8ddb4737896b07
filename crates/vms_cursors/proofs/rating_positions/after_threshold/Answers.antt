-- The set of the threshold on the next CPU, and any other step.
use Rattle.std.proofs.Common.{◌≡◌, ◌∙◌, [], ◌∷◌, ◌+◌, ap, sym, arith}
use Rattle.vms_calls.specs.Common.{CpuId, PlaceId, SetT, after}
use Rattle.vms_cursors.specs.RatingClauses.{facts_with}
use Rattle.vms_cursors.specs.Ratings.{rating_at}
use Rattle.vms_cursors.specs.declared.rating_positions.RatingPosition.TheVariants.{Thresholds}
use Rattle.vms_cursors.proofs.RatingGoes.{known-goes, known-stops, threshold-is}
use Rattle.vms_cursors.proofs.StepReadings.{set_threshold-other, set_threshold-read, set_threshold-same}
use Rattle.vms_cursors.proofs.rating_positions.after_threshold.Goals as goal

pub returns-in-Some-clause-goes : goal.returns-in-Some-clause-goes
returns-in-Some-clause-goes g c = λ sizes base p h.
    let shape = c.args.layout.now in
    let P = g.R.ThresholdRules.pressure in
    let N = g.R.ThresholdRules.normal in
    let zone : PlaceId = record { number = c.args.zone } in
    let cpu : CpuId = record { number = c.args.cpu } in
    let facts = facts_with shape sizes base in
    let same : c.in-Some.set ≡ c.args.threshold = omega (arith, c.if-set-threshold.true) in
    known-goes (rating_at facts p P N c.args.call h (Thresholds c.args.seen c.args.zone c.args.threshold c.args.cpu))
    (SetT cpu zone c.args.threshold) (λ s. rating_at facts p P N c.args.call (after p (s ∷ []) h)
    (Thresholds c.args.seen c.args.zone c.args.threshold (c.args.cpu + 1)))
    (threshold-is facts p P N c.args.call h c.args.seen c.args.zone c.args.cpu c.args.threshold c.requires.cpu
    c.requires.online) c.args.step
    (ap (SetT cpu zone) (sym same) ∙ set_threshold-read cpu zone c.args.step c.in-Some.set (sym c.in-Some.ensures))

pub returns-in_default-clause-stops : goal.returns-in_default-clause-stops
returns-in_default-clause-stops g c = λ none sizes base p h.
    let shape = c.args.layout.now in
    let P = g.R.ThresholdRules.pressure in
    let N = g.R.ThresholdRules.normal in
    let zone : PlaceId = record { number = c.args.zone } in
    let cpu : CpuId = record { number = c.args.cpu } in
    let facts = facts_with shape sizes base in
    let differ : c.in-Some.set ≡ c.args.threshold → ⊥ =
    λ same. absurd (omega (arith, c.if-set-threshold.false, same)) in
    known-stops (rating_at facts p P N c.args.call h (Thresholds c.args.seen c.args.zone c.args.threshold c.args.cpu))
    (SetT cpu zone c.args.threshold) (λ s. rating_at facts p P N c.args.call (after p (s ∷ []) h)
    (Thresholds c.args.seen c.args.zone c.args.threshold (c.args.cpu + 1)))
    (threshold-is facts p P N c.args.call h c.args.seen c.args.zone c.args.cpu c.args.threshold c.requires.cpu
    c.requires.online) c.args.step
    (λ same. differ (set_threshold-same cpu zone c.in-Some.set c.args.threshold
    (set_threshold-read cpu zone c.args.step c.in-Some.set (sym c.in-Some.ensures) ∙ sym same)))

pub returns-in_default-2-clause-stops : goal.returns-in_default-2-clause-stops
returns-in_default-2-clause-stops g c = λ none sizes base p h.
    let shape = c.args.layout.now in
    let P = g.R.ThresholdRules.pressure in
    let N = g.R.ThresholdRules.normal in
    let zone : PlaceId = record { number = c.args.zone } in
    let cpu : CpuId = record { number = c.args.cpu } in
    let facts = facts_with shape sizes base in
    known-stops (rating_at facts p P N c.args.call h (Thresholds c.args.seen c.args.zone c.args.threshold c.args.cpu))
    (SetT cpu zone c.args.threshold) (λ s. rating_at facts p P N c.args.call (after p (s ∷ []) h)
    (Thresholds c.args.seen c.args.zone c.args.threshold (c.args.cpu + 1)))
    (threshold-is facts p P N c.args.call h c.args.seen c.args.zone c.args.cpu c.args.threshold c.requires.cpu
    c.requires.online) c.args.step
    (set_threshold-other cpu zone c.args.step (sym c.in_default.ensures) c.args.threshold)
