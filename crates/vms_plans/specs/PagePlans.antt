-- The plan of each call on the page counters, and the law of plans.
use Rattle.std.specs.Prelude.{ℕ, List, ◌↔◌, Option, Some, None}
use Rattle.vms_calls.specs.Common.{Header, CpuId, ZoneSize, State, Step, History, facts_of, ByNormal, ByPressure}
use Rattle.vms_calls.specs.declared.page_calls.PageAnswer.{PageAnswer}
use Rattle.vms_calls.specs.declared.page_calls.PageAnswer.TheVariants as answer
use Rattle.vms_calls.specs.declared.page_calls.PageCall.{PageCall}
use Rattle.vms_calls.specs.declared.page_calls.PageCall.TheVariants.{Change, Fold, Test, Value, Snapshot, System}
use Rattle.vms_calls.specs.declared.page_calls.PageCall.TheVariants.{SetPressure, SetNormal, Bury, Turn}
use Rattle.vms_calls.specs.PageCalls.{IsPageCall, owns_cpu}
use Rattle.vms_plans.specs.ChangePlans.{change_plan}
use Rattle.vms_plans.specs.FoldPlans.{fold_plan}
use Rattle.vms_plans.specs.LookPlans.{snapshot_plan, system_plan, test_plan, value_plan}
use Rattle.vms_plans.specs.Plans.{Plan, ends, refuses, and_then, Runs}
use Rattle.vms_plans.specs.RatingPlans.{burial_plan, node_plan}
use Rattle.vms_plans.specs.TurnPlans.{turn_plan}

-- a plan whose answer is told as that of a call
abbrev pub answering : {A : Type 0} → (A → PageAnswer) → Plan A → Plan PageAnswer
answering tell plan = and_then plan (λ a. ends (tell a))

-- the plan of a call by pass p, which owns a CPU or none, where the call begins in history h of a phase from this state
abbrev pub plan_of : Header → State → (pressure normal : ZoneSize → ℕ → ℕ → Type 0) → PageCall → Option CpuId → ℕ
    → History → Plan PageAnswer
plan_of header base pressure normal (Change k delta how) (Some own) p h =
    answering (λ made. answer.Done) (change_plan header.layout own k delta how)
plan_of header base pressure normal (Fold c) owner p h =
    answering (λ made. answer.Done) (fold_plan header.layout (owns_cpu owner c) c)
plan_of header base pressure normal (Test g mark most) owner p h =
    answering (λ verdict. answer.Tested verdict) (test_plan header g mark most)
plan_of header base pressure normal (Value k) owner p h =
    answering (λ pages. answer.Value pages) (value_plan k)
plan_of header base pressure normal (Snapshot k) owner p h =
    answering (λ pages. answer.Snapshot pages) (snapshot_plan header.layout k)
plan_of header base pressure normal (System i) owner p h =
    answering (λ pages. answer.System pages) (system_plan i)
plan_of header base pressure normal (SetPressure n) None p h =
    answering (λ made. answer.Done) (node_plan (facts_of header base) p (ByPressure pressure normal) n h)
plan_of header base pressure normal (SetNormal n) None p h =
    answering (λ made. answer.Done) (node_plan (facts_of header base) p (ByNormal normal) n h)
plan_of header base pressure normal (Bury c) None p h =
    answering (λ made. answer.Done) (burial_plan (facts_of header base) p normal c h)
plan_of header base pressure normal (Turn n order most) None p h =
    answering (λ balance. answer.Balanced balance) (turn_plan header base pressure normal n p order most h)
plan_of header base pressure normal _ _ p h = refuses

-- the steps of a call and its answer are those that run through the plan, both ways
abbrev pub PlansAreCalls : (pressure normal : ZoneSize → ℕ → ℕ → Type 0) → Type 0
PlansAreCalls pressure normal = (header : Header) (base : State) (call : PageCall) (owner : Option CpuId) (p : ℕ)
    (h : History) (steps : List Step) (answer : PageAnswer) →
    IsPageCall header base pressure normal call owner p h steps answer
    ↔ Runs (plan_of header base pressure normal call owner p h) steps answer
