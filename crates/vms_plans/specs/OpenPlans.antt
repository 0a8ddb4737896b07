-- Plans that can always go on: whatever their steps tell, they don't come to a refusal.
use Rattle.std.specs.Prelude.{ℕ, Option, Some, None}
use Rattle.vms_calls.specs.Common.{Header, CpuId, ZoneSize, State, Step, History}
use Rattle.vms_calls.specs.declared.page_calls.PageCall.{PageCall}
use Rattle.vms_calls.specs.declared.page_calls.PageCall.TheVariants.{Change, SetPressure, SetNormal, Bury, Turn}
use Rattle.vms_plans.specs.declared.due_steps.DueStep.{DueStep}
use Rattle.vms_plans.specs.Plans.{Plan, ends, refuses, waits, asks, Fits}
use Rattle.vms_plans.specs.PagePlans.{plan_of}

abbrev pub IsOpen : {A : Type 0} → Plan A → Type 0
IsOpen (ends a) = Unit {0}
IsOpen refuses = ⊥
IsOpen (waits due next) = (step : Step) → Fits due step → IsOpen (next step)
IsOpen (asks Allows next) = (t usual : ℕ) → Allows t usual → IsOpen (next t usual)

-- for each step that is due there is one that fits
abbrev pub SomeStepFits : Type 0
SomeStepFits = (due : DueStep) → (step : Step) × Fits due step

-- who makes a call: a change is made by the owner of a CPU, the calls that set thresholds by one that owns none
abbrev pub MakesCall : Option CpuId → PageCall → Type 0
MakesCall None (Change k delta how) = ⊥
MakesCall (Some own) (SetPressure n) = ⊥
MakesCall (Some own) (SetNormal n) = ⊥
MakesCall (Some own) (Bury c) = ⊥
MakesCall (Some own) (Turn n order most) = ⊥
MakesCall owner call = Unit {0}

-- the plan of each call that the pass makes is open
abbrev pub PlansAreOpen : (pressure normal : ZoneSize → ℕ → ℕ → Type 0) → Type 0
PlansAreOpen pressure normal = (header : Header) (base : State) (call : PageCall) (owner : Option CpuId) (p : ℕ)
    (h : History) → MakesCall owner call → IsOpen (plan_of header base pressure normal call owner p h)
