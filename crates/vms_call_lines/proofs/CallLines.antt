-- The lines of a call are those of the steps that its history goes on with.
use Rattle.std.proofs.Common.{◌≡◌, ◌≢◌, ℕ, false, ℤ, List, ◌++◌, refl, sym, ap, subst, ◌∙◌}
use Rattle.std.specs.Prelude.{Option, Some}
use Rattle.vms_calls.specs.Common.{CounterId, CpuId, GivesThresholds, HasWon, Header, History, IsFold, LeadsOn, Mode}
use Rattle.vms_calls.specs.Common.{State, Step, ZoneSize, facts_of, pages}
use Rattle.vms_calls.specs.MayMake as making
use Rattle.vms_calls.specs.PageCalls.{IsPageCall, asks_rules, owns_cpu}
use Rattle.vms_calls.specs.declared.page_calls.PageAnswer.{PageAnswer}
use Rattle.vms_calls.specs.declared.page_calls.PageAnswer.TheVariants as answer
use Rattle.vms_calls.specs.declared.page_calls.PageCall.{PageCall}
use Rattle.vms_calls.specs.declared.page_calls.PageCall.TheVariants.{Change, Fold}
use Rattle.vms_calls.proofs.Common.{fold-each}
use Rattle.vms_calls.proofs.PageCalls.{owned-cpu, page-may}
use Rattle.vms_history.proofs.Common.{call-goes_on}
use Rattle.vms_plans.specs.Common.{Plan, answering, change_plan, ends, plan_of}
use Rattle.vms_plans.proofs.PageRuns.{plans-are_calls}
use Rattle.vms_core.specs.ChangedStates.{with_change}
use Rattle.vms_plain_pages.specs.Common.{CallLeadsAlone, pages_are_by_state, pages_by_state}
use Rattle.vms_plain_control.specs.PageCalls.{AnswersPageCall, MakesPageCall}
use Rattle.vms_plain_control.proofs.CallKinds.{All-each, folds-won}
use Rattle.vms_plain_control.proofs.MadeCalls.{change-made, look-made}
use Rattle.vms_plain_control.proofs.Common.{KnowsPeaks-left, LeavesPeaks, folds-leave}
use Rattle.vms_call_lines.specs.Calls.{WritesCall}
use Rattle.vms_call_lines.specs.Folds.{WritesFold}
use Rattle.vms_rating_lines.specs.Lines.{step_lines}
use Rattle.vms_call_lines.specs.Lines.{WritesWay}
use Rattle.vms_call_lines.proofs.LegalSteps.{legal-leads}
use Rattle.vms_call_lines.proofs.Writing.{writes-and_then, writes-ends}

pub writes-answering : {A : Type 0} (who : Option CpuId) (p : ℕ) (tell : A → PageAnswer) (plan : Plan A) (s next : State)
    (out out' : List ℕ) (a : A) → WritesWay who plan s p out out' a next
    → WritesWay who (answering tell plan) s p out out' (tell a) next
writes-answering who p tell plan s next out out' a way =
    writes-and_then who p plan (λ a. ends (tell a)) s next next out out' out' a (tell a) way
    (writes-ends who p (tell a) next out')

-- the only way through a call's plan is written before the call is made
pub call-written : (header : Header) (pressure normal : ZoneSize → ℕ → ℕ → Type 0) (call : PageCall)
    (owner : Option CpuId) (p : ℕ) (s : State) (peaks : List ℕ) (next : State) (known : List ℕ) (out out' : List ℕ)
    (told : PageAnswer) → MakesPageCall header pressure normal call owner told s peaks next known
    → AnswersPageCall header call owner s next told
    → ((base : State) (h : History) → (a : PageAnswer) × (last : State)
    × WritesWay owner (plan_of header base pressure normal call owner p h) s p out out' a last)
    → WritesCall header pressure normal call owner p s peaks next known out out'
call-written header pressure normal call owner p s peaks next known out out' told makes answers writes = record {
  told = told;
  answers = answers;
  makes = λ base h may stands knows.
      let goes = makes base h p may stands knows in
      let (a, last, way) = writes base h in
      let leads = legal-leads (facts_of header base) p owner goes.steps h next may.living.lives may.owner_is goes.goes_on in
      let run = (plans-are_calls pressure normal header base call owner p h goes.steps told).0 goes.is in
      let same = way.way.only goes.steps told next run
      (subst (λ (x : State). LeadsOn pages_by_state owner goes.steps x next) stands leads) in
      (goes, way.lines ∙ ap (λ (xs : List Step). out ++ step_lines p xs) (sym same.0));
}

-- the way through the one plan of a call
module _ {A : Type 0} (header : Header) (pressure normal : ZoneSize → ℕ → ℕ → Type 0) (call : PageCall)
    (owner : Option CpuId) (p : ℕ) (s next last : State) (peaks : List ℕ) (out out' : List ℕ) (told : PageAnswer)
    (answers : AnswersPageCall header call owner s next told) (tell : A → PageAnswer) (plan : Plan A) (a : A)
    (writes : WritesWay owner plan s p out out' a last)
    (is : (base : State) (h : History)
    → plan_of header base pressure normal call owner p h ≡ answering tell plan) where
  plan-written : MakesPageCall header pressure normal call owner told s peaks next peaks
      → WritesCall header pressure normal call owner p s peaks next peaks out out'
  plan-written makes = call-written header pressure normal call owner p s peaks next peaks out out' told makes answers
      (λ base h. (
        tell a,
        last,
        subst (λ plan. WritesWay owner plan s p out out' (tell a) last) (sym (is base h))
            (writes-answering owner p tell plan s last out out' a writes),
      ))

-- a call that looks at numbers
pub look-written : {A : Type 0} (header : Header) (pressure normal : ZoneSize → ℕ → ℕ → Type 0) (call given : PageCall)
    (owner : Option CpuId) (p : ℕ) (s : State) (peaks : List ℕ) (out out' : List ℕ) (told : PageAnswer)
    (tell : A → PageAnswer) (plan : Plan A) (a : A) → GivesThresholds pressure → GivesThresholds normal
    → given ≡ call → asks_rules call ≡ false
    → ((k : CounterId) (delta : ℤ) (how : Mode) → call ≢ Change k delta how)
    → ((base : State) (h : History) → plan_of header base pressure normal call owner p h ≡ answering tell plan)
    → AnswersPageCall header call owner s s told
    → ((base : State) (h : History) (q : ℕ)
    → CallLeadsAlone owner (λ ks. IsPageCall header base pressure normal call owner q h ks told) s s)
    → WritesWay owner plan s p out out' a s
    → WritesCall header pressure normal given owner p s peaks s peaks out out'
look-written header pressure normal call given owner p s peaks out out' told tell plan a gives gives_normal same asks
    no_change is answers leads writes =
    subst (λ (c : PageCall). WritesCall header pressure normal c owner p s peaks s peaks out out') (sym same)
    (plan-written header pressure normal call owner p s s s peaks out out' told answers tell plan a writes is
    (look-made header pressure normal s s peaks gives gives_normal call owner told asks no_change leads))

-- a change
pub change-written : (header : Header) (pressure normal : ZoneSize → ℕ → ℕ → Type 0) (own : CpuId) (k : CounterId)
    (delta : ℤ) (how : Mode) (given : PageCall) (owner : Option CpuId) (p : ℕ) (s next last : State) (peaks : List ℕ)
    (out out' : List ℕ) → given ≡ Change k delta how → owner ≡ Some own
    → next ≡ with_change header.layout own.number k.number delta how s
    → WritesWay owner (change_plan header.layout own k delta how) s p out out' (tt {0}) last
    → WritesCall header pressure normal given owner p s peaks next peaks out out'
change-written header pressure normal own k delta how given owner p s next last peaks out out' same owns changed writes =
    let call = Change k delta how in
    let told = answer.Done in
    subst (λ (c : PageCall). WritesCall header pressure normal c owner p s peaks next peaks out out') (sym same)
    (plan-written header pressure normal call owner p s next last peaks out out' told (own, owns, changed)
    (λ made. answer.Done) (change_plan header.layout own k delta how) (tt {0}) writes (λ base h. rw owns refl)
    (subst (λ (who : Option CpuId). MakesPageCall header pressure normal call who told s peaks next peaks) (sym owns)
    (change-made header pressure normal s next peaks own k delta how changed)))

-- a fold is made as its lines are written
pub fold-written : (header : Header) (pressure normal : ZoneSize → ℕ → ℕ → Type 0) (c : CpuId) (owner : Option CpuId)
    (p : ℕ) (s next : State) (peaks : List ℕ) (out out' : List ℕ) → GivesThresholds pressure → GivesThresholds normal
    → WritesFold header.layout (owns_cpu owner c) c p s next out out'
    → WritesCall header pressure normal (Fold c) owner p s peaks next peaks out out'
fold-written header pressure normal c owner p s next peaks out out' gives gives_normal writes = record {
  told = answer.Done;
  answers = writes.folds;
  makes = λ base h may stands knows.
      let steps = writes.steps in
      let leads = writes.leads owner (owned-cpu owner c) in (
        record {
          steps = steps;
          is = writes.made;
          alone = All-each HasWon steps
              (fold-each HasWon folds-won header.layout (owns_cpu owner c) c steps writes.made);
          goes_on = call-goes_on pages making.Tells pages_by_state pages_are_by_state (facts_of header base) p owner h
              (λ ks. IsFold header.layout (owns_cpu owner c) c ks) steps next may.living.legal may.living.lives may.owner_is
              (λ later before step rest begun made tells.
              page-may pressure normal gives gives_normal header base h p (Fold c) owner may later before step rest
              (answer.Done, begun) made tells) writes.made
              (subst (λ (x : State). LeadsOn pages_by_state owner steps x next) (sym stands) leads);
          knows = KnowsPeaks-left (facts_of header base) p steps
              (fold-each LeavesPeaks folds-leave header.layout (owns_cpu owner c) c steps writes.made) h peaks knows;
        },
        writes.lines,
      );
}
