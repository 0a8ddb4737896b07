-- What a cursor says of the plan that it stands in.
use Rattle.std.specs.Prelude.{List, [], ◌∷◌, ◌↔◌}
use Rattle.vms_calls.specs.Common.{Step}
use Rattle.vms_plans.specs.declared.due_steps.DueStep.{DueStep}
use Rattle.vms_plans.specs.Common.{Fits, Plan, Runs}

-- what runs through a plan with this step first runs on through a later one
abbrev pub GoesOn : {A : Type 0} → Plan A → Step → Plan A → Type 0
GoesOn {A} plan step later = (steps : List Step) (answer : A) → Runs plan (step ∷ steps) answer ↔ Runs later steps answer

-- the same runs through two plans
abbrev pub IsSame : {A : Type 0} → Plan A → Plan A → Type 0
IsSame {A} plan other = (steps : List Step) (answer : A) → Runs plan steps answer ↔ Runs other steps answer

-- nothing runs through a plan with this step first
abbrev pub Stops : {A : Type 0} → Plan A → Step → Type 0
Stops {A} plan step = (steps : List Step) (answer : A) → Runs plan (step ∷ steps) answer → ⊥

-- each step that may come first is this one, up to what it tells, and the plan doesn't end here
abbrev pub IsDue : {A : Type 0} → Plan A → DueStep → Type 0
IsDue {A} plan due = ((step : Step) (steps : List Step) (answer : A) → Runs plan (step ∷ steps) answer → Fits due step)
    × ((answer : A) → Runs plan [] answer → ⊥)

-- a plan ends here with this answer
abbrev pub HasEnded : {A : Type 0} → Plan A → A → Type 0
HasEnded plan answer = Runs plan [] answer

-- a plan doesn't end here
abbrev pub IsUnended : {A : Type 0} → Plan A → Type 0
IsUnended {A} plan = (answer : A) → HasEnded plan answer → ⊥
