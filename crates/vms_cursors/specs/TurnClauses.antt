-- What is said of a position of a turn of kswapd, whatever the state, the pass and the history.
use Rattle.std.specs.Prelude.{ℕ, [], ◌∷◌}
use Rattle.vms_calls.specs.Common.{Header, History, Shape, State, Step, ZoneSize, after, facts_of}
use Rattle.vms_calls.specs.declared.choices.Chosen.{Chosen}
use Rattle.vms_plans.specs.declared.due_steps.DueStep.{DueStep}
use Rattle.vms_cursors.specs.Balances.{IsBalanceSettled, IsUnpassed}
use Rattle.vms_cursors.specs.Cursors.{GoesOn, HasEnded, IsDue, IsSame, IsUnended, Stops}
use Rattle.vms_cursors.specs.RatingClauses.{Answers, IsAsked}
use Rattle.vms_cursors.specs.Ratings.{rating_at}
use Rattle.vms_cursors.specs.Turns.{turn_answer, turn_at}
use Rattle.vms_cursors.specs.declared.asked.Asked.{Asked}
use Rattle.vms_cursors.specs.declared.rating_calls.RatingCall.TheVariants.{Normal, Pressure}
use Rattle.vms_cursors.specs.declared.turn_positions.TurnPosition.{TurnPosition}
use Rattle.vms_cursors.specs.declared.turn_positions.TurnPosition.TheVariants.{Presses, Tests, Settles}
use Rattle.vms_cursors.specs.declared.turns.Turn.{Turn}

module _ (header : Header) (pressure normal : ZoneSize → ℕ → ℕ → Type 0) (turn : Turn) (at : TurnPosition) where
  abbrev pub TurnSame : TurnPosition → Type 0
  TurnSame other = (base : State) (p : ℕ) (h : History)
      → IsSame (turn_at header base p pressure normal turn h at) (turn_at header base p pressure normal turn h other)

  abbrev pub TurnDue : DueStep → Type 0
  TurnDue due = (base : State) (p : ℕ) (h : History) → IsDue (turn_at header base p pressure normal turn h at) due

  abbrev pub TurnEnded : Type 0
  TurnEnded = (base : State) (p : ℕ) (h : History)
      → HasEnded (turn_at header base p pressure normal turn h at) (turn_answer at)

  -- the later plan is that in the history with the step
  abbrev pub TurnGoes : Step → TurnPosition → Type 0
  TurnGoes step later = (base : State) (p : ℕ) (h : History)
      → GoesOn (turn_at header base p pressure normal turn h at) step
      (turn_at header base p pressure normal turn (after p (step ∷ []) h) later)

  abbrev pub TurnStops : Step → Type 0
  TurnStops step = (base : State) (p : ℕ) (h : History)
      → Stops (turn_at header base p pressure normal turn h at) step

-- a step is due at the position, or the turn has ended there
abbrev pub IsTurnSettled : Header → (pressure normal : ZoneSize → ℕ → ℕ → Type 0) → Turn → TurnPosition → Type 0
IsTurnSettled header pressure normal turn (Presses at) = (base : State) (p : ℕ) (h : History)
    → IsUnended (rating_at (facts_of header base) p pressure normal (Pressure turn.node) h at)
IsTurnSettled header pressure normal turn (Tests at) = IsBalanceSettled header turn at × IsUnpassed at
IsTurnSettled header pressure normal turn (Settles g verdict at) = Unit {0}

-- the rules choose these thresholds and no others, and the mark covers the zone then
abbrev pub TurnAnswers : Header → State → ℕ → (pressure normal : ZoneSize → ℕ → ℕ → Type 0) → Turn → History
    → TurnPosition → Chosen → ℕ → Type 0
TurnAnswers header base p pressure normal turn h (Presses at) chosen mark =
    Answers (facts_of header base) p pressure normal (Pressure turn.node) h at chosen mark
TurnAnswers header base p pressure normal turn h (Settles g verdict at) chosen mark =
    Answers (facts_of header base) p pressure normal (Normal turn.node) h at chosen mark
TurnAnswers header base p pressure normal turn h (Tests at) chosen mark = Unit {0}

-- the rules are asked for this
abbrev pub IsTurnAsked : Shape → TurnPosition → Asked → Type 0
IsTurnAsked shape (Presses at) asked = IsAsked shape at asked
IsTurnAsked shape (Settles g verdict at) asked = IsAsked shape at asked
IsTurnAsked shape (Tests at) asked = ⊥
