-- The steps that run through a plan where each tells what stands, and no other caller acts between them.
use Rattle.std.specs.Prelude.{◌≡◌, List, [], ◌∷◌, Option}
use Rattle.vms_calls.specs.Common.{CpuId, LeadsOn, State, Step}
use Rattle.vms_plans.specs.Common.{Plan, Runs}
use Rattle.vms_plain_pages.specs.Common.{effect_by, pages_by_state}

-- whatever runs through a plan from this state on is these steps, with this answer
pub record IsOnlyWay {A : Type 0} (who : Option CpuId) (plan : Plan A) (s : State) (steps : List Step) (answer : A)
    : Type 0 where
  pub only : (made : List Step) (told : A) (last : State) → Runs plan made told
      → LeadsOn pages_by_state who made s last → (made ≡ steps) × (told ≡ answer)

-- the state that these steps of a caller lead to
abbrev pub led : Option CpuId → List Step → State → State
led who [] s = s
led who (step ∷ steps) s = led who steps (effect_by who step s)
