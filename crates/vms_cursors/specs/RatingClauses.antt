-- What is said of a position of a call that gives thresholds, whatever the sizes, the state, the pass and the history.
use Rattle.std.specs.Prelude.{◌≡◌, ℕ, List, [], ◌∷◌, length}
use Rattle.vms_calls.specs.Common.{Facts, History, Shape, State, Step, ZoneSize, after, mark_for, size_at}
use Rattle.vms_calls.specs.declared.choices.Chosen.{Chosen}
use Rattle.vms_plans.specs.declared.due_steps.DueStep.{DueStep}
use Rattle.vms_cursors.specs.Cursors.{GoesOn, HasEnded, IsDue, IsSame, Stops}
use Rattle.vms_cursors.specs.OnlineCpus.{flagged}
use Rattle.vms_cursors.specs.RatingCalls.{choice_in}
use Rattle.vms_cursors.specs.Ratings.{online_in, rating_at}
use Rattle.vms_cursors.specs.declared.asked.Asked.{Asked}
use Rattle.vms_cursors.specs.declared.rating_calls.RatingCall.{RatingCall}
use Rattle.vms_cursors.specs.declared.rating_positions.RatingPosition.{RatingPosition}
use Rattle.vms_cursors.specs.declared.rating_positions.RatingPosition.TheVariants.{Asks}

-- the facts of a phase of this layout
abbrev pub facts_with : Shape → List ZoneSize → State → Facts
facts_with shape sizes base = record { layout = shape; sizes = sizes; base = base }

module _ (shape : Shape) (pressure normal : ZoneSize → ℕ → ℕ → Type 0) (call : RatingCall) (at : RatingPosition) where
  abbrev pub RatingSame : RatingPosition → Type 0
  RatingSame other = (sizes : List ZoneSize) (base : State) (p : ℕ) (h : History)
      → IsSame (rating_at (facts_with shape sizes base) p pressure normal call h at)
      (rating_at (facts_with shape sizes base) p pressure normal call h other)

  abbrev pub RatingDue : DueStep → Type 0
  RatingDue due = (sizes : List ZoneSize) (base : State) (p : ℕ) (h : History)
      → IsDue (rating_at (facts_with shape sizes base) p pressure normal call h at) due

  abbrev pub RatingEnded : Type 0
  RatingEnded = (sizes : List ZoneSize) (base : State) (p : ℕ) (h : History)
      → HasEnded (rating_at (facts_with shape sizes base) p pressure normal call h at) (tt {0})

  -- the later plan is that in the history with the step
  abbrev pub RatingGoes : Step → RatingPosition → Type 0
  RatingGoes step later = (sizes : List ZoneSize) (base : State) (p : ℕ) (h : History)
      → GoesOn (rating_at (facts_with shape sizes base) p pressure normal call h at) step
      (rating_at (facts_with shape sizes base) p pressure normal call (after p (step ∷ []) h) later)

  abbrev pub RatingStops : Step → Type 0
  RatingStops step = (sizes : List ZoneSize) (base : State) (p : ℕ) (h : History)
      → Stops (rating_at (facts_with shape sizes base) p pressure normal call h at) step

-- the rules choose these two thresholds and no others, and the mark covers the zone once the first stands
abbrev pub Answers : Facts → ℕ → (pressure normal : ZoneSize → ℕ → ℕ → Type 0) → RatingCall → History
    → RatingPosition → Chosen → ℕ → Type 0
Answers facts p pressure normal call h (Asks seen g m) chosen mark =
    choice_in call pressure normal (size_at facts.sizes g) (length (online_in facts p pressure normal call seen))
    chosen.threshold chosen.usual
    × ((t usual : ℕ) → choice_in call pressure normal (size_at facts.sizes g)
    (length (online_in facts p pressure normal call seen)) t usual → (t ≡ chosen.threshold) × (usual ≡ chosen.usual))
    × (mark ≡ mark_for facts p (online_in facts p pressure normal call seen) h g chosen.usual chosen.threshold)
Answers facts p pressure normal call h at chosen mark = Unit {0}

-- the rules are asked for this zone, with this mark, and for so many online CPUs
abbrev pub IsAsked : Shape → RatingPosition → Asked → Type 0
IsAsked shape (Asks seen g m) asked =
    (asked.zone.number ≡ g) × (asked.mark ≡ m) × (asked.online ≡ length (flagged seen.online.flags 0 shape.cpus))
IsAsked shape at asked = ⊥
