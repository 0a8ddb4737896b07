-- For other crates too: the steps of a call, where they stand in a history.
use Rattle.std.proofs.Common.{◌≡◌, ℕ, List, [], ◌∷◌, ◌++◌, refl, sym, ap, ◌∙◌, append-nil}
use Rattle.vms_history.specs.Common.{PcpuId, Extends, own, after, HasMade}
use Rattle.vms_history.proofs.Common.{Extends-both, own-on_top}
use Rattle.vms_pcpu_core.specs.declared.steps.PcpuFacts.{PcpuFacts}
use Rattle.vms_pcpu_core.specs.declared.steps.PcpuStep.{PcpuStep}
use Rattle.vms_pcpu_core.specs.declared.steps.PcpuStep.TheVariants.{Won, Missed}
use Rattle.vms_pcpu_core.specs.Common.{Locks, won, missed, percpu, History, IsLegal, MadeWithin, event, MadeSteps}
use Rattle.vms_pcpu_core.proofs.SumMoments.{legal-earlier}
use Rattle.vms_pcpu_core.proofs.StepsInRow.{run-made, run-append, run-own, run-extends, RunsBetween}

-- the steps of a call ran from the earlier history to a moment after which p did no more
pub record Ran (facts : PcpuFacts) (earlier later : History) (p : ℕ) (steps : List PcpuStep) : Type 0 where
  pub end : History
  pub run : RunsBetween p steps earlier end
  pub kept : Extends later end
  pub none_since : own kept.0 p ≡ []
  pub legal : IsLegal facts end

pub call-ran : (facts : PcpuFacts) (earlier later : History) (p : ℕ) (steps : List PcpuStep)
    → MadeSteps facts earlier later p steps
    → Ran facts earlier later p steps
call-ran facts earlier later p steps calls =
    let more : History = calls.goes_on.0 in
    let is : later ≡ more ++ earlier = calls.goes_on.1 in
    let made =
    run-made p steps more earlier (own-on_top more earlier p steps (sym (ap (λ es. own es p) is) ∙ calls.made)) in
    let kept : Extends later made.0 = (made.2.0, is ∙ made.2.1) in
    record {
      end = made.0;
      run = made.1;
      kept = kept;
      none_since = made.2.2;
      legal = legal-earlier facts later made.0 calls.legal kept;
    }

-- the steps of a lock end with its being won
pub run-locks : (p : ℕ) (j : PcpuId) (locking : List PcpuStep) (h g : History) → Locks j locking
    → RunsBetween p locking h g
    → (free : History) × (g ≡ event p (Won j) ∷ free) × Extends free h
run-locks p j locking h g won run = (run.0 ++ h, run.2, (run.0, refl))
run-locks p j locking h g (missed rest locks) run =
    let later = run-locks p j rest (event p (Missed j) ∷ (run.0 ++ h)) g locks run.2 in (
      later.0,
      later.1,
      Extends-both later.0 (event p (Missed j) ∷ (run.0 ++ h)) h later.2 (event p (Missed j) ∷ run.0, refl),
    )

-- a caller's steps in a row among all its steps were made between two moments
pub MadeWithin-holds : (facts : PcpuFacts) (h : History) (p : ℕ) (before steps more : List PcpuStep) → IsLegal facts h
    → own h p ≡ after p (before ++ steps ++ more) [] → MadeWithin facts h p before steps
MadeWithin-holds facts h p before steps more legal made =
    let whole = run-made p (before ++ steps ++ more) h [] made in
    let on : h ≡ whole.2.0 ++ whole.0 = sym (append-nil h) ∙ whole.2.1 in
    let front = run-append p (before ++ steps) more [] whole.0 whole.1 in
    let parts = run-append p before steps [] front.0 front.1 in
    let kept : Extends h front.0 =
    Extends-both h whole.0 front.0 (whole.2.0, on) (run-extends p more front.0 whole.0 front.2) in
    record {
      earlier = parts.0;
      later = front.0;
      calls =
          record {
            legal = legal-earlier facts h front.0 legal kept;
            goes_on = run-extends p steps parts.0 front.0 parts.2;
            made = run-own p steps parts.0 front.0 parts.2;
          };
      kept = kept;
      own_before = run-own p before [] parts.0 parts.1;
    }

-- what a living pass has made, a caller has made
pub made-by_living : (facts : PcpuFacts) (earlier later : History) (p : ℕ) (steps : List PcpuStep)
    → HasMade percpu facts later earlier p steps → MadeSteps facts earlier later p steps
made-by_living facts earlier later p steps has =
    record { legal = has.legal; goes_on = has.extends; made = has.made }
