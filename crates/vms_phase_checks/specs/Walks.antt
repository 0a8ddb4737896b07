-- What is said of walks.
use Rattle.std.specs.Prelude.{◌≡◌, ℕ, ◌≤◌, List, ◌∷◌, None}
use Rattle.vms_world.specs.Common.{Header, ZoneSize, State, Step, Act, Lane, PageSteps, begun_in, facts_of, owner_in}
use Rattle.vms_world.specs.Common.{owner_of}
use Rattle.vms_core.specs.Pages.{History, IsLegal}
use Rattle.vms_core.specs.Steps.{role}
use Rattle.vms_plans.specs.Common.{Fits}
use Rattle.vms_plans.specs.declared.due_steps.DueStep.{DueStep}
use Rattle.vms_written.specs.Common.{GoesAlong}

-- a legal history of a phase from this state in which no pass but p is a control pass, if p is that of the control lane
pub record IsAloneIn (header : Header) (base : State) (lane : Lane) (p : ℕ) (h : History) : Type 0 where
  pub legal : IsLegal (facts_of header base) h
  pub alone : owner_of lane ≡ None → (q : ℕ) → 1 ≤ q → q ≤ begun_in role h → owner_in role h q ≡ None → q ≡ p

-- a walk went on with a step of its pass, which goes along the acts of its lane with it
pub record Walked {W : Type 0} (Stands : Header → State → Lane → ℕ → List Act → History → W → Type 0)
    (pressure normal : ZoneSize → ℕ → ℕ → Type 0) (header : Header) (base : State) (lane : Lane) (p : ℕ)
    (acts : List Act) (h : History) (step : Step) (later : W) : Type 0 where
  pub stands : Stands header base lane p acts (record { caller = p; step = step } ∷ h) later
  pub along : GoesAlong (PageSteps header base pressure normal lane p) p acts (record { caller = p; step = step } ∷ h)

-- with which step pass p may go along its acts: this one alone, up to what it tells
abbrev pub IsDueIn : (pressure normal : ZoneSize → ℕ → ℕ → Type 0) → Header → State → Lane → ℕ → List Act → History
    → DueStep → Type 0
IsDueIn pressure normal header base lane p acts h due = (step : Step)
    → IsAloneIn header base lane p (record { caller = p; step = step } ∷ h)
    → GoesAlong (PageSteps header base pressure normal lane p) p acts (record { caller = p; step = step } ∷ h)
    → Fits due step
