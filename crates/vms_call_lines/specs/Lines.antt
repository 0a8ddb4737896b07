-- The lines of a way through a plan.
use Rattle.std.specs.Prelude.{◌≡◌, ℕ, List, ◌++◌, Option}
use Rattle.vms_calls.specs.Common.{CpuId, State, Step}
use Rattle.vms_plans.specs.Common.{Plan}
use Rattle.vms_rating_lines.specs.Lines.{step_lines}
use Rattle.vms_call_lines.specs.Ways.{IsOnlyWay, led}

-- the lines of the only way through a plan are written, which answers this and leads to the next state
pub record WritesWay {A : Type 0} (who : Option CpuId) (plan : Plan A) (s : State) (p : ℕ) (out out' : List ℕ)
    (answer : A) (next : State) : Type 0 where
  pub steps : List Step
  pub way : IsOnlyWay who plan s steps answer
  pub lines : out' ≡ out ++ step_lines p steps
  pub leads : led who steps s ≡ next

-- the lines of the first steps of that way are written, which lead to the next state. From there it goes through what
-- is left of the plan
pub record BeginsWriting {A : Type 0} (who : Option CpuId) (plan : Plan A) (s : State) (p : ℕ) (out out' : List ℕ)
    (left : Plan A) (next : State) : Type 0 where
  pub steps : List Step
  pub begins : (rest : List Step) (answer : A) → IsOnlyWay who left next rest answer
      → IsOnlyWay who plan s (steps ++ rest) answer
  pub lines : out' ≡ out ++ step_lines p steps
  pub leads : led who steps s ≡ next
