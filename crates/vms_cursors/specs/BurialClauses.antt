-- What is said of a position of a burial, whatever the sizes, the state, the pass and the history.
use Rattle.std.specs.Prelude.{ℕ, List, [], ◌∷◌}
use Rattle.vms_calls.specs.Common.{CpuId, Facts, History, Shape, State, Step, ZoneSize, after}
use Rattle.vms_calls.specs.declared.choices.Chosen.{Chosen}
use Rattle.vms_plans.specs.declared.due_steps.DueStep.{DueStep}
use Rattle.vms_cursors.specs.Burials.{burial_at}
use Rattle.vms_cursors.specs.Cursors.{GoesOn, HasEnded, IsDue, Stops}
use Rattle.vms_cursors.specs.RatingClauses.{Answers, IsAsked, facts_with}
use Rattle.vms_cursors.specs.declared.asked.Asked.{Asked}
use Rattle.vms_cursors.specs.declared.burial_positions.BurialPosition.{BurialPosition}
use Rattle.vms_cursors.specs.declared.burial_positions.BurialPosition.TheVariants.{Folds, Rates}
use Rattle.vms_cursors.specs.declared.rating_calls.RatingCall.TheVariants.{Refresh}

module _ (shape : Shape) (pressure normal : ZoneSize → ℕ → ℕ → Type 0) (c : CpuId) (at : BurialPosition) where
  abbrev pub BurialDue : DueStep → Type 0
  BurialDue due = (sizes : List ZoneSize) (base : State) (p : ℕ) (h : History)
      → IsDue (burial_at (facts_with shape sizes base) p pressure normal c h at) due

  abbrev pub BurialEnded : Type 0
  BurialEnded = (sizes : List ZoneSize) (base : State) (p : ℕ) (h : History)
      → HasEnded (burial_at (facts_with shape sizes base) p pressure normal c h at) (tt {0})

  -- the later plan is that in the history with the step
  abbrev pub BurialGoes : Step → BurialPosition → Type 0
  BurialGoes step later = (sizes : List ZoneSize) (base : State) (p : ℕ) (h : History)
      → GoesOn (burial_at (facts_with shape sizes base) p pressure normal c h at) step
      (burial_at (facts_with shape sizes base) p pressure normal c (after p (step ∷ []) h) later)

  abbrev pub BurialStops : Step → Type 0
  BurialStops step = (sizes : List ZoneSize) (base : State) (p : ℕ) (h : History)
      → Stops (burial_at (facts_with shape sizes base) p pressure normal c h at) step

-- the rules choose these thresholds and no others, and the mark covers the zone then
abbrev pub BurialAnswers : Facts → ℕ → (pressure normal : ZoneSize → ℕ → ℕ → Type 0) → History → BurialPosition
    → Chosen → ℕ → Type 0
BurialAnswers facts p pressure normal h (Rates at) chosen mark =
    Answers facts p pressure normal Refresh h at chosen mark
BurialAnswers facts p pressure normal h (Folds at) chosen mark = Unit {0}

-- the rules are asked for this
abbrev pub IsBurialAsked : Shape → BurialPosition → Asked → Type 0
IsBurialAsked shape (Rates at) asked = IsAsked shape at asked
IsBurialAsked shape (Folds at) asked = ⊥
