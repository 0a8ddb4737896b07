-- For other crates too: what is said of a position is said of another of the same plan.
use Rattle.std.proofs.Common.{◌≡◌, ℕ, List, [], ◌∷◌, subst}
use Rattle.std.specs.Prelude.{IfSome, None, Option, Some}
use Rattle.vms_calls.specs.Common.{History, Shape, State, Step, ZoneSize, after}
use Rattle.vms_plans.specs.declared.due_steps.DueStep.{DueStep}
use Rattle.vms_cursors.specs.RatingClauses.{RatingDue, RatingEnded, RatingGoes, RatingSame, RatingStops, facts_with}
use Rattle.vms_cursors.specs.Ratings.{rating_at}
use Rattle.vms_cursors.specs.declared.rating_calls.RatingCall.{RatingCall}
use Rattle.vms_cursors.specs.declared.rating_positions.RatingPosition.{RatingPosition}
use Rattle.vms_cursors.proofs.Goes.{same-runs}
use Rattle.vms_cursors.proofs.PlanEquations.{same-both, same-due, same-ended, same-goes, same-stops}

module _ (shape : Shape) (pressure normal : ZoneSize → ℕ → ℕ → Type 0) (call : RatingCall) where
  pub rating-same : (at other : RatingPosition) → ((sizes : List ZoneSize) (base : State) (p : ℕ) (h : History)
      → rating_at (facts_with shape sizes base) p pressure normal call h at
      ≡ rating_at (facts_with shape sizes base) p pressure normal call h other)
      → RatingSame shape pressure normal call at other
  rating-same at other is = λ sizes base p h.
      same-runs (rating_at (facts_with shape sizes base) p pressure normal call h at)
      (rating_at (facts_with shape sizes base) p pressure normal call h other) (is sizes base p h)

  pub rating-as : (at other : RatingPosition) → at ≡ other → RatingSame shape pressure normal call at other
  rating-as at other same = subst (λ x. RatingSame shape pressure normal call at x) same
      (λ sizes base p h steps answer. ((λ run. run), (λ run. run)))

  module _ (at other : RatingPosition) (same : RatingSame shape pressure normal call at other) where
    pub rating-both : (last : RatingPosition) → RatingSame shape pressure normal call other last
        → RatingSame shape pressure normal call at last
    rating-both last more = λ sizes base p h.
        same-both (rating_at (facts_with shape sizes base) p pressure normal call h at)
        (rating_at (facts_with shape sizes base) p pressure normal call h other)
        (rating_at (facts_with shape sizes base) p pressure normal call h last) (same sizes base p h)
        (more sizes base p h)

    pub rating-due : (due : Option DueStep) → IfSome due (λ d. RatingDue shape pressure normal call other d)
        → IfSome due (λ d. RatingDue shape pressure normal call at d)
    rating-due None is = is
    rating-due (Some d) is = λ sizes base p h.
        same-due (rating_at (facts_with shape sizes base) p pressure normal call h at)
        (rating_at (facts_with shape sizes base) p pressure normal call h other) d (same sizes base p h)
        (is sizes base p h)

    pub rating-ended : RatingEnded shape pressure normal call other → RatingEnded shape pressure normal call at
    rating-ended ended = λ sizes base p h.
        same-ended (rating_at (facts_with shape sizes base) p pressure normal call h at)
        (rating_at (facts_with shape sizes base) p pressure normal call h other) (tt {0}) (same sizes base p h)
        (ended sizes base p h)

    pub rating-goes : (step : Step) (later : Option RatingPosition)
        → IfSome later (λ x. RatingGoes shape pressure normal call other step x)
        → IfSome later (λ x. RatingGoes shape pressure normal call at step x)
    rating-goes step None is = is
    rating-goes step (Some x) goes = λ sizes base p h.
        same-goes (rating_at (facts_with shape sizes base) p pressure normal call h at)
        (rating_at (facts_with shape sizes base) p pressure normal call h other) step
        (rating_at (facts_with shape sizes base) p pressure normal call (after p (step ∷ []) h) x)
        (same sizes base p h) (goes sizes base p h)

    pub rating-stops : (step : Step) → RatingStops shape pressure normal call other step
        → RatingStops shape pressure normal call at step
    rating-stops step stops = λ sizes base p h.
        same-stops (rating_at (facts_with shape sizes base) p pressure normal call h at)
        (rating_at (facts_with shape sizes base) p pressure normal call h other) step (same sizes base p h)
        (stops sizes base p h)
