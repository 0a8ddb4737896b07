-- The plan of what is left of a burial at each position.
use Rattle.std.specs.Prelude.{ℕ, false, [], ◌∷◌}
use Rattle.vms_calls.specs.Common.{CpuId, Facts, History, SetO, Shape, ZoneSize, after}
use Rattle.vms_plans.specs.Common.{Plan, and_then, makes, recorded, refresh_plan}
use Rattle.vms_cursors.specs.Folds.{IsFoldWithin, fold_at}
use Rattle.vms_cursors.specs.Ratings.{IsAnswered, IsPositionWithin, rating_at}
use Rattle.vms_cursors.specs.declared.burial_positions.BurialPosition.{BurialPosition}
use Rattle.vms_cursors.specs.declared.burial_positions.BurialPosition.TheVariants.{Folds, Rates}
use Rattle.vms_cursors.specs.declared.folds.Fold.{Fold}
use Rattle.vms_cursors.specs.declared.rating_calls.RatingCall.TheVariants.{Refresh}

-- the fold of a burial is by another pass than the CPU's
abbrev pub fold_of : CpuId → Fold
fold_of c = record { cpu = c; is_own = false }

module _ (facts : Facts) (p : ℕ) (pressure normal : ZoneSize → ℕ → ℕ → Type 0) (c : CpuId) where
  -- after the fold the CPU is made absent, and then comes a refresh
  abbrev pub after_burial_fold : Unit {0} × History → Plan (Unit {0})
  after_burial_fold folded = makes (SetO c) (refresh_plan facts p normal (after p (SetO c ∷ []) folded.1))

  abbrev pub burial_at : History → BurialPosition → Plan (Unit {0})
  burial_at h (Folds at) = and_then (recorded p h (fold_at facts.layout (fold_of c) at)) after_burial_fold
  burial_at h (Rates at) = rating_at facts p pressure normal Refresh h at

abbrev pub IsBurialWithin : Shape → BurialPosition → Type 0
IsBurialWithin shape (Folds at) = IsFoldWithin shape at
IsBurialWithin shape (Rates at) = IsPositionWithin shape at

-- no rule is asked
abbrev pub IsBurialAnswered : BurialPosition → Type 0
IsBurialAnswered (Folds at) = Unit {0}
IsBurialAnswered (Rates at) = IsAnswered at
