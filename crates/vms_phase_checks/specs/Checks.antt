-- What the check of a phase keeps of the page events so far.
use Rattle.std.specs.Prelude.{◌≡◌, ◌≢◌, ℕ, ◌+◌, ◌≤◌, List, [], ◌∷◌, length, slice_index_or, true, Option, Some, None}
use Rattle.vms_world.specs.Common.{Header, ZoneSize, State, Step, Act, Item, Lane, acts_of, begun_in, facts_of}
use Rattle.vms_world.specs.Common.{lives_in, owner_in}
use Rattle.vms_core.specs.Pages.{History, IsLegal}
use Rattle.vms_core.specs.Steps.{role}
use Rattle.vms_plans.specs.Common.{Fits}
use Rattle.vms_plans.specs.declared.due_steps.DueStep.{DueStep}
use Rattle.vms_registers.specs.Slots.{owner_of}
use Rattle.vms_written_lines.specs.declared.wide_steps.WideStep.{WideStep}
use Rattle.vms_written_lines.specs.WideSteps.{step_of}
use Rattle.vms_phase_checks.specs.declared.checks.PhaseCheck.{PhaseCheck}
use Rattle.vms_phase_checks.specs.declared.faults.EventCause.{EventCause}
use Rattle.vms_phase_checks.specs.declared.faults.EventCause.TheVariants.{Illegal, NotInScript}
use Rattle.vms_phase_checks.specs.Kept.{FitsSomewhere, HasMadeLane, KeepsToLines}
use Rattle.vms_phase_checks.specs.Shown.{ShowsPages}
use Rattle.vms_phase_checks.specs.Slots.{lane_in}

module _ {W : Type 0} (Stands : Header → State → Lane → ℕ → List Act → History → W → Type 0)
    (pressure normal : ZoneSize → ℕ → ℕ → Type 0) (header : Header) (s : State) (items : List Item) (h : History)
  where
    -- the walk of the lane whose pass stands in a slot: none where no pass of the lane has begun
    abbrev pub WalksIn : ℕ → Option W → Type 0
    WalksIn slot None = (q : ℕ) → 1 ≤ q → q ≤ begun_in role h → owner_in role h q ≢ owner_of header.layout.cpus slot
    WalksIn slot (Some walk) = (q : ℕ) × (1 ≤ q) × (q ≤ begun_in role h)
        × (owner_in role h q ≡ owner_of header.layout.cpus slot)
        × Stands header s (lane_in header.layout.cpus slot) q (acts_of (lane_in header.layout.cpus slot) items) h walk

    -- the events keep to the lines, the registers show them, and each lane that has begun has its walk
    pub record Checks (check : PhaseCheck W) : Type 0 where
      pub facts : check.facts ≡ facts_of header s
      pub keeps : KeepsToLines header pressure normal s items h
      pub shows : ShowsPages (facts_of header s) h check.registers
      pub one_list_each : length check.lanes ≡ header.layout.cpus + 1
      pub acts : (slot : ℕ) → slot ≤ header.layout.cpus
          → slice_index_or check.lanes slot [] ≡ acts_of (lane_in header.layout.cpus slot) items
      pub one_walk_each : length check.walks ≡ header.layout.cpus + 1
      pub walks : (slot : ℕ) → slot ≤ header.layout.cpus → WalksIn slot (slice_index_or check.walks slot None)
      pub counted : length h ≡ check.events

-- some lines that fit and some events are what the check keeps
abbrev pub MayCheck : {W : Type 0} (Stands : Header → State → Lane → ℕ → List Act → History → W → Type 0)
    (pressure normal : ZoneSize → ℕ → ℕ → Type 0) → Header → PhaseCheck W → Type 0
MayCheck Stands pressure normal header check = (s : State) × (items : List Item) × (h : History)
    × FitsSomewhere header items × Checks Stands pressure normal header s items h check

-- what is told of a caller's pass: nothing is due where it has made all acts of its lane, or doesn't live, and
-- otherwise it may go on with this step alone, up to what the step tells
module _ (pressure normal : ZoneSize → ℕ → ℕ → Type 0) (header : Header) (s : State) (items : List Item) (h : History)
    (caller : ℕ) where
  abbrev pub IsDueOf : Option DueStep → Type 0
  IsDueOf None = lives_in role h caller ≡ true
      → HasMadeLane header pressure normal s items (owner_in role h caller) caller h
  IsDueOf (Some due) = (lives_in role h caller ≡ true)
      × (¬ HasMadeLane header pressure normal s items (owner_in role h caller) caller h)
      × ((step : Step) → KeepsToLines header pressure normal s items (record { caller = caller; step = step } ∷ h)
      → Fits due step)

-- why a pass's step may not follow these events of a phase
module _ (pressure normal : ZoneSize → ℕ → ℕ → Type 0) (header : Header) (s : State) (items : List Item) (h : History)
    (caller : ℕ) (wide : WideStep) where
  abbrev pub IsEventFault : EventCause → Type 0
  IsEventFault Illegal = (step : Step) → step_of wide ≡ Some step
      → ¬ IsLegal (facts_of header s) (record { caller = caller; step = step } ∷ h)
  IsEventFault NotInScript = (step : Step) × (step_of wide ≡ Some step)
      × IsLegal (facts_of header s) (record { caller = caller; step = step } ∷ h)
      × (¬ KeepsToLines header pressure normal s items (record { caller = caller; step = step } ∷ h))
  IsEventFault _ = ⊥
