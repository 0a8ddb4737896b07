-- For other crates too: the steps of a call on the page counters are those that run through its plan.
use Rattle.std.proofs.Common.{ℕ, List, subst}
use Rattle.std.specs.Prelude.{Option, Some, None}
use Rattle.vms_calls.specs.Common.{Header, CpuId, ZoneSize, State, Step, History, facts_of, ByNormal, ByPressure}
use Rattle.vms_calls.specs.declared.page_calls.PageAnswer.{PageAnswer}
use Rattle.vms_calls.specs.declared.page_calls.PageAnswer.TheVariants as answer
use Rattle.vms_calls.specs.declared.page_calls.PageCall.{PageCall}
use Rattle.vms_calls.specs.declared.page_calls.PageCall.TheVariants.{Change, Fold, Test, Value, Snapshot, System}
use Rattle.vms_calls.specs.declared.page_calls.PageCall.TheVariants.{SetPressure, SetNormal, Bury, Turn}
use Rattle.vms_calls.specs.PageCalls.{IsPageCall, owns_cpu}
use Rattle.vms_plans.specs.Common.{change_plan, fold_plan, snapshot_plan, system_plan, test_plan, value_plan, Runs}
use Rattle.vms_plans.specs.Common.{burial_plan, node_plan, turn_plan, PlansAreCalls, plan_of}
use Rattle.vms_plans.proofs.PlanLaws.{runs-answering, told-answering}
use Rattle.vms_plans.proofs.LookRuns.{snapshot-runs, snapshot-told, system-runs, system-told, test-runs, test-told}
use Rattle.vms_plans.proofs.LookRuns.{value-runs, value-told}
use Rattle.vms_plans.proofs.ChangeRuns.{change-runs, change-told}
use Rattle.vms_plans.proofs.FoldRuns.{fold-runs, fold-told}
use Rattle.vms_plans.proofs.RatingRuns.{burial-runs, burial-told, node-runs, node-told}
use Rattle.vms_plans.proofs.TurnRuns.{turn-runs, turn-told}

module _ (header : Header) (base : State) (pressure normal : ZoneSize → ℕ → ℕ → Type 0) (p : ℕ) (h : History) where
  abbrev made : Unit {0} → PageAnswer
  made done = answer.Done

  abbrev Call : PageCall → Option CpuId → List Step → PageAnswer → Type 0
  Call call owner steps v = IsPageCall header base pressure normal call owner p h steps v

  call-runs : (call : PageCall) (owner : Option CpuId) (steps : List Step) (v : PageAnswer) → Call call owner steps v
      → Runs (plan_of header base pressure normal call owner p h) steps v
  call-runs (Change k delta how) (Some own) steps answer.Done call =
      runs-answering (change_plan header.layout own k delta how) made steps (tt {0})
      (change-runs header.layout own k delta how steps call)
  call-runs (Fold c) owner steps answer.Done call =
      runs-answering (fold_plan header.layout (owns_cpu owner c) c) made steps (tt {0})
      (fold-runs header.layout (owns_cpu owner c) c steps call)
  call-runs (Test g mark most) owner steps (answer.Tested verdict) call =
      runs-answering (test_plan header g mark most) (λ v. answer.Tested v) steps verdict
      (test-runs header g mark most steps verdict call)
  call-runs (Value k) owner steps (answer.Value pages) call =
      runs-answering (value_plan k) (λ v. answer.Value v) steps pages (value-runs k steps pages call)
  call-runs (Snapshot k) owner steps (answer.Snapshot pages) call =
      runs-answering (snapshot_plan header.layout k) (λ v. answer.Snapshot v) steps pages
      (snapshot-runs header.layout k steps pages call)
  call-runs (System i) owner steps (answer.System pages) call =
      runs-answering (system_plan i) (λ v. answer.System v) steps pages (system-runs i steps pages call)
  call-runs (SetPressure n) None steps answer.Done call =
      runs-answering (node_plan (facts_of header base) p (ByPressure pressure normal) n h) made steps (tt {0})
      (node-runs (facts_of header base) p (ByPressure pressure normal) n h steps call)
  call-runs (SetNormal n) None steps answer.Done call =
      runs-answering (node_plan (facts_of header base) p (ByNormal normal) n h) made steps (tt {0})
      (node-runs (facts_of header base) p (ByNormal normal) n h steps call)
  call-runs (Bury c) None steps answer.Done call =
      runs-answering (burial_plan (facts_of header base) p normal c h) made steps (tt {0})
      (burial-runs (facts_of header base) p normal c h steps call)
  call-runs (Turn n order most) None steps (answer.Balanced balance) call =
      runs-answering (turn_plan header base pressure normal n p order most h) (λ v. answer.Balanced v) steps balance
      (turn-runs header base pressure normal n p order most h steps balance call)
  call-runs call owner steps v none = absurd none

  plan-told : (call : PageCall) (owner : Option CpuId) (steps : List Step) (v : PageAnswer)
      → Runs (plan_of header base pressure normal call owner p h) steps v → Call call owner steps v
  plan-told (Change k delta how) (Some own) steps v run =
      let found = told-answering (change_plan header.layout own k delta how) made steps v run in
      subst (Call (Change k delta how) (Some own) steps) found.2
      (change-told header.layout own k delta how steps found.1)
  plan-told (Fold c) owner steps v run =
      let found = told-answering (fold_plan header.layout (owns_cpu owner c) c) made steps v run in
      subst (Call (Fold c) owner steps) found.2 (fold-told header.layout (owns_cpu owner c) c steps found.1)
  plan-told (Test g mark most) owner steps v run =
      let found = told-answering (test_plan header g mark most) (λ v. answer.Tested v) steps v run in
      subst (Call (Test g mark most) owner steps) found.2 (test-told header g mark most steps found.0 found.1)
  plan-told (Value k) owner steps v run =
      let found = told-answering (value_plan k) (λ v. answer.Value v) steps v run in
      subst (Call (Value k) owner steps) found.2 (value-told k steps found.0 found.1)
  plan-told (Snapshot k) owner steps v run =
      let found = told-answering (snapshot_plan header.layout k) (λ v. answer.Snapshot v) steps v run in
      subst (Call (Snapshot k) owner steps) found.2 (snapshot-told header.layout k steps found.0 found.1)
  plan-told (System i) owner steps v run =
      let found = told-answering (system_plan i) (λ v. answer.System v) steps v run in
      subst (Call (System i) owner steps) found.2 (system-told i steps found.0 found.1)
  plan-told (SetPressure n) None steps v run =
      let found = told-answering (node_plan (facts_of header base) p (ByPressure pressure normal) n h) made steps v run in
      subst (Call (SetPressure n) None steps) found.2
      (node-told (facts_of header base) p (ByPressure pressure normal) n h steps found.1)
  plan-told (SetNormal n) None steps v run =
      let found = told-answering (node_plan (facts_of header base) p (ByNormal normal) n h) made steps v run in
      subst (Call (SetNormal n) None steps) found.2
      (node-told (facts_of header base) p (ByNormal normal) n h steps found.1)
  plan-told (Bury c) None steps v run =
      let found = told-answering (burial_plan (facts_of header base) p normal c h) made steps v run in
      subst (Call (Bury c) None steps) found.2 (burial-told (facts_of header base) p normal c h steps found.1)
  plan-told (Turn n order most) None steps v run =
      let found = told-answering (turn_plan header base pressure normal n p order most h) (λ v. answer.Balanced v) steps v
      run in
      subst (Call (Turn n order most) None steps) found.2
      (turn-told header base pressure normal n p order most h steps found.0 found.1)
  plan-told call owner steps v none = absurd none

pub plans-are_calls : (pressure normal : ZoneSize → ℕ → ℕ → Type 0) → PlansAreCalls pressure normal
plans-are_calls pressure normal header base call owner p h steps v = (
  call-runs header base pressure normal p h call owner steps v,
  plan-told header base pressure normal p h call owner steps v,
)
