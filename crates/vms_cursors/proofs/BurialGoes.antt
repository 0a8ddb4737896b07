-- How a burial goes on from its fold.
use Rattle.std.proofs.Common.{◌≡◌, ℕ, [], ◌∷◌, refl, ap}
use Rattle.vms_calls.specs.Common.{CpuId, Facts, History, SetO, Step, ZoneSize, after}
use Rattle.vms_plans.specs.declared.due_steps.DueStep.{DueStep}
use Rattle.vms_plans.specs.declared.due_steps.DueStep.TheVariants.{Makes}
use Rattle.vms_plans.specs.Common.{Plan, and_then, recorded, refresh_plan, waits}
use Rattle.vms_cursors.specs.Burials.{after_burial_fold, burial_at, fold_of}
use Rattle.vms_cursors.specs.Cursors.{GoesOn, HasEnded, IsDue, IsUnended, Stops}
use Rattle.vms_cursors.specs.Folds.{fold_at}
use Rattle.vms_cursors.specs.declared.burial_positions.BurialPosition.TheVariants.{Folds, Rates}
use Rattle.vms_cursors.specs.declared.fold_positions.FoldPosition.{FoldPosition}
use Rattle.vms_cursors.specs.declared.online_cpus.OnlineCpus.{OnlineCpus}
use Rattle.vms_cursors.specs.declared.rating_positions.RatingPosition.TheVariants.{States}
use Rattle.vms_cursors.proofs.Asking.{fold-asks}
use Rattle.vms_cursors.proofs.Followed.{followed-due, followed-goes, followed-stops, recorded-due, recorded-goes}
use Rattle.vms_cursors.proofs.Followed.{recorded-is, recorded-stops, recorded-unended}
use Rattle.vms_cursors.proofs.Goes.{waits-due, waits-goes_to, waits-stops}
use Rattle.vms_cursors.proofs.PlanEquations.{due-along, goes-along, stops-along}
use Rattle.vms_cursors.proofs.RatingBegins.{refresh-begins}

module _ (facts : Facts) (p : ℕ) (pressure normal : ZoneSize → ℕ → ℕ → Type 0) (c : CpuId) (h : History)
    (at : FoldPosition) where
  abbrev fold : Plan (Unit {0})
  fold = fold_at facts.layout (fold_of c) at

  abbrev here : Plan (Unit {0})
  here = burial_at facts p pressure normal c h (Folds at)

  abbrev kept : Plan (Unit {0} × History)
  kept = recorded p h fold

  abbrev more : Unit {0} × History → Plan (Unit {0})
  more = after_burial_fold facts p pressure normal c

  -- the fold has not ended
  module _ (unended : HasEnded fold (tt {0}) → ⊥) where
    kept-unended : IsUnended kept
    kept-unended = recorded-unended p h fold (λ a. unended)

    pub folds-stop : (step : Step) → Stops fold step → Stops here step
    folds-stop step stops = followed-stops kept more kept-unended step (recorded-stops p h fold step stops)

    pub folds-go : (step : Step) (later : FoldPosition) → GoesOn fold step (fold_at facts.layout (fold_of c) later)
        → GoesOn here step (burial_at facts p pressure normal c (after p (step ∷ []) h) (Folds later))
    folds-go step later goes =
        let fold_later = fold_at facts.layout (fold_of c) later in
        followed-goes kept more kept-unended step (recorded p (after p (step ∷ []) h) fold_later)
        (recorded-goes p h fold step fold_later goes)

  pub folds-due : (due : DueStep) → IsDue fold due → IsDue here due
  folds-due due is =
      followed-due kept more (recorded-unended p h fold is.1) due (recorded-due p h fold due is)

  -- the fold has ended
  module _ (ended : HasEnded fold (tt {0})) where
    abbrev refreshed : Step → Plan (Unit {0})
    refreshed made = refresh_plan facts p normal (after p (SetO c ∷ []) h)

    removal-is : here ≡ waits (Makes (SetO c)) refreshed
    removal-is = ap (λ plan. and_then plan more)
        (recorded-is p h fold (tt {0}) (fold-asks facts.layout (fold_of c) at) ended)

    pub removals-due : IsDue here (Makes (SetO c))
    removals-due = due-along (waits (Makes (SetO c)) refreshed) here (Makes (SetO c)) removal-is
        (waits-due (Makes (SetO c)) refreshed)

    module _ (step : Step) where
      pub removals-stop : (SetO c ≡ step → ⊥) → Stops here step
      removals-stop other = stops-along (waits (Makes (SetO c)) refreshed) here step removal-is
          (waits-stops (Makes (SetO c)) refreshed step other)

      pub removals-go : (online : OnlineCpus) → SetO c ≡ step
          → GoesOn here step (burial_at facts p pressure normal c (after p (step ∷ []) h) (Rates (States online 0)))
      removals-go online same =
          let later = λ (s : Step). burial_at facts p pressure normal c (after p (s ∷ []) h)
          (Rates (States online 0)) in
          goes-along (waits (Makes (SetO c)) refreshed) here step (later step) (later step) removal-is refl
          (waits-goes_to (Makes (SetO c)) refreshed (SetO c) step later refl same
          (refresh-begins facts p pressure normal (after p (SetO c ∷ []) h) online))
