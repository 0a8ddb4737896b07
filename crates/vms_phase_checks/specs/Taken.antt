-- What taking a legal event asks and does.
use Rattle.std.specs.Prelude.{◌≡◌, ℕ, List, ◌∷◌, Result, MatchResult}
use Rattle.vms_world.specs.Common.{Header, ZoneSize, State, Step, Act, Item, Lane, facts_of}
use Rattle.vms_core.specs.Pages.{History, IsLegal}
use Rattle.vms_phase_checks.specs.declared.checks.PhaseCheck.{PhaseCheck}
use Rattle.vms_phase_checks.specs.declared.faults.EventCause.{EventCause}
use Rattle.vms_phase_checks.specs.declared.faults.EventCause.TheVariants.{NotInScript}
use Rattle.vms_phase_checks.specs.Checks.{Checks}
use Rattle.vms_phase_checks.specs.Kept.{FitsSomewhere, KeepsToLines}

module _ {W : Type 0} (Stands : Header → State → Lane → ℕ → List Act → History → W → Type 0)
    (pressure normal : ZoneSize → ℕ → ℕ → Type 0) (header : Header) (caller : ℕ) (step : Step) where
  -- the step is legal after the events of some phase of lines that fit
  abbrev pub MayTake : PhaseCheck W → Type 0
  MayTake check = (s : State) × (items : List Item) × (h : History) × FitsSomewhere header items
      × Checks Stands pressure normal header s items h check
      × IsLegal (facts_of header s) (record { caller = caller; step = step } ∷ h)

  -- where it is legal it is taken if it keeps to the lines, and refused otherwise
  abbrev pub Takes : PhaseCheck W → PhaseCheck W → Result (Unit {0}) EventCause → Type 0
  Takes old new result = (s : State) (items : List Item) (h : History) → FitsSomewhere header items
      → Checks Stands pressure normal header s items h old
      → IsLegal (facts_of header s) (record { caller = caller; step = step } ∷ h)
      → MatchResult result (λ _. Checks Stands pressure normal header s items
      (record { caller = caller; step = step } ∷ h) new)
      (λ cause. (new ≡ old) × (cause ≡ NotInScript)
      × (¬ KeepsToLines header pressure normal s items (record { caller = caller; step = step } ∷ h)))
