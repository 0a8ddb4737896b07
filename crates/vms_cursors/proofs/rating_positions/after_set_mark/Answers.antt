-- The set of the mark, and any other step.
use Rattle.std.proofs.Common.{◌≡◌, ◌∙◌, [], ◌∷◌, refl, ap, sym, arith}
use Rattle.vms_calls.specs.Common.{History, PlaceId, SetM, after}
use Rattle.vms_cursors.specs.RatingClauses.{facts_with}
use Rattle.vms_cursors.specs.Ratings.{rating_at}
use Rattle.vms_cursors.specs.declared.rating_positions.RatingPosition.TheVariants.{Mark, Thresholds}
use Rattle.vms_cursors.proofs.RatingGoes.{known-goes, known-stops}
use Rattle.vms_cursors.proofs.StepReadings.{set_mark-other, set_mark-read, set_mark-same}
use Rattle.vms_cursors.proofs.rating_positions.after_set_mark.Goals as goal

pub returns-in-Some-clause-goes : goal.returns-in-Some-clause-goes
returns-in-Some-clause-goes g c = λ sizes base p h.
    let shape = c.args.layout.now in
    let P = g.R.ThresholdRules.pressure in
    let N = g.R.ThresholdRules.normal in
    let zone : PlaceId = record { number = c.args.zone } in
    let at = λ (k : History). rating_at (facts_with shape sizes base) p P N c.args.call k in
    let same : c.in-Some.set ≡ c.args.mark = omega (arith, c.if-set-mark.true) in
    known-goes (at h (Mark c.args.seen c.args.zone c.args.threshold c.args.mark)) (SetM zone c.args.mark)
    (λ s. at (after p (s ∷ []) h) (Thresholds c.args.seen c.args.zone c.args.threshold 0)) refl c.args.step
    (ap (SetM zone) (sym same) ∙ set_mark-read zone c.args.step c.in-Some.set (sym c.in-Some.ensures))

pub returns-in_default-clause-stops : goal.returns-in_default-clause-stops
returns-in_default-clause-stops g c = λ none sizes base p h.
    let shape = c.args.layout.now in
    let P = g.R.ThresholdRules.pressure in
    let N = g.R.ThresholdRules.normal in
    let zone : PlaceId = record { number = c.args.zone } in
    let at = λ (k : History). rating_at (facts_with shape sizes base) p P N c.args.call k in
    let differ : c.in-Some.set ≡ c.args.mark → ⊥ = λ same. absurd (omega (arith, c.if-set-mark.false, same)) in
    known-stops (at h (Mark c.args.seen c.args.zone c.args.threshold c.args.mark)) (SetM zone c.args.mark)
    (λ s. at (after p (s ∷ []) h) (Thresholds c.args.seen c.args.zone c.args.threshold 0)) refl c.args.step
    (λ same. differ (set_mark-same zone c.in-Some.set c.args.mark
    (set_mark-read zone c.args.step c.in-Some.set (sym c.in-Some.ensures) ∙ sym same)))

pub returns-in_default-2-clause-stops : goal.returns-in_default-2-clause-stops
returns-in_default-2-clause-stops g c = λ none sizes base p h.
    let shape = c.args.layout.now in
    let P = g.R.ThresholdRules.pressure in
    let N = g.R.ThresholdRules.normal in
    let zone : PlaceId = record { number = c.args.zone } in
    let at = λ (k : History). rating_at (facts_with shape sizes base) p P N c.args.call k in
    known-stops (at h (Mark c.args.seen c.args.zone c.args.threshold c.args.mark)) (SetM zone c.args.mark)
    (λ s. at (after p (s ∷ []) h) (Thresholds c.args.seen c.args.zone c.args.threshold 0)) refl c.args.step
    (set_mark-other zone c.args.step (sym c.in_default.ensures) c.args.mark)
