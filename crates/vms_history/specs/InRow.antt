-- Steps that a caller makes in a row, where no other acts between them.
use Rattle.std.specs.Prelude.{◌≡◌, ℕ, List, [], ◌∷◌, Option}
use Rattle.vms_base.specs.declared.ids.CpuId.{CpuId}
use Rattle.vms_history.specs.declared.events.Event.{Event}
use Rattle.vms_history.specs.Events.{after}
use Rattle.vms_history.specs.Legal.{Machine, IsLegal, state_after}
use Rattle.vms_history.specs.Passes.{owner_in}

-- what steps tell and do, by the state alone and by the CPU that their caller owns
pub record ByState (K S : Type 0) : Type 1 where
  -- the numbers that the step names stand in this state
  pub Tells : Option CpuId → S → K → Type 0
  -- the state after the step
  pub effect : Option CpuId → K → S → S

-- steps of a caller that owns a CPU or none, the oldest first, lead from one state to another: each tells what stands
-- when it is made
abbrev pub LeadsOn : {K S : Type 0} → ByState K S → Option CpuId → List K → S → S → Type 0
LeadsOn by who [] s s' = s ≡ s'
LeadsOn by who (step ∷ steps) s s' = by.Tells who s step × LeadsOn by who steps (by.effect who step s) s'

-- the steps of a table tell and do that, wherever they are made in its histories
pub record IsByState {F K S : Type 0} (machine : Machine F K S) (Tells : F → List (Event K) → ℕ → K → Type 0)
    (by : ByState K S) : Type 0 where
  pub tells : (facts : F) (h : List (Event K)) (p : ℕ) (step : K)
      → by.Tells (owner_in machine.role h p) (state_after machine facts h) step → Tells facts h p step
  pub effect : (facts : F) (who : Option CpuId) (step : K) (s : S)
      → machine.effect facts who step s ≡ by.effect who step s

-- a history goes on with these steps of caller p to a state: it is legal with them
pub record GoesOnTo {F K S : Type 0} (machine : Machine F K S) (facts : F) (p : ℕ) (steps : List K)
    (h : List (Event K)) (next : S) : Type 0 where
  pub legal : IsLegal machine facts (after p steps h)
  pub state : state_after machine facts (after p steps h) ≡ next
