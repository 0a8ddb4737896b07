-- For other crates too: a limited addition keeps its limit, but for what others change and carry.
use Rattle.std.proofs.Common.{◌≡◌, ◌≢◌, ℕ, Bool, true, false, true≢false, List, [], ◌∷◌, ◌++◌, Some, ℤ, pos, ◌+ℤ◌, refl}
use Rattle.std.proofs.Common.{sym, ◌∙◌}
use Rattle.vms_history.specs.Common.{CpuId, PcpuId, own, after, owner_in}
use Rattle.vms_pcpu_core.specs.declared.steps.PcpuFacts.{PcpuFacts}
use Rattle.vms_pcpu_core.specs.declared.steps.PcpuStep.{PcpuStep}
use Rattle.vms_pcpu_core.specs.declared.steps.PcpuStep.TheVariants.{AddL, LoadL, LoadC, Unlock}
use Rattle.vms_pcpu_core.specs.Common.{batch_at, Judges, EndsLimitedAdd, IsLimitedAdd, unknown, present_cpus, yes_ends}
use Rattle.vms_pcpu_core.specs.Common.{no_ends, nothing, unlocked, locked, History, KeepsLimit, PassesLimit, MadeSteps}
use Rattle.vms_pcpu_core.specs.Common.{carried, role}
use Rattle.vms_pcpu_core.proofs.StepsInRow.{run-own}
use Rattle.vms_pcpu_core.proofs.CallsWithin.{Ran, call-ran}
use Rattle.vms_pcpu_core.proofs.LimitAnswers.{Says}
use Rattle.vms_pcpu_core.proofs.WithoutLock.{unlocked-keeps}
use Rattle.vms_pcpu_core.proofs.UnderLock.{locked-keeps, locked-passes}

pub limited-says : (facts : PcpuFacts) (earlier later : History) (p : ℕ) (cpu : CpuId) (j : PcpuId) (limit amount : ℤ)
    (steps : List PcpuStep) (answer : Bool) → MadeSteps facts earlier later p steps → owner_in role later p ≡ Some cpu
    → carried j.number (own earlier p) ≡ pos 0
    → IsLimitedAdd (batch_at facts.base j.number) (unknown facts j.number) (present_cpus facts) cpu j limit amount steps
    answer
    → Says facts earlier later p j limit amount answer
limited-says facts earlier later p cpu j limit amount steps answer calls owner nothing_carried (nothing none) =
    let ran = call-ran facts earlier later p [] calls in
    record {
      end = ran.end;
      kept = ran.kept;
      none_since = ran.none_since;
      on_yes = λ is some. absurd (some none);
      on_no = λ is. absurd (true≢false is);
    }
limited-says facts earlier later p cpu j limit amount steps answer calls owner nothing_carried
    (unlocked l v other fits enough) =
    let ran = call-ran facts earlier later p (LoadL j cpu l ∷ LoadC j v ∷ AddL j amount ∷ []) calls in
    record {
      end = ran.end;
      kept = ran.kept;
      none_since = ran.none_since;
      on_yes =
          λ is some.
          unlocked-keeps facts earlier later p cpu j limit amount calls.legal owner nothing_carried l v ran.end fits
          enough ran.run ran.kept;
      on_no = λ is. absurd (true≢false is);
    }
limited-says facts earlier later p cpu j limit amount steps answer calls owner nothing_carried
    (locked v verdict probing locking loads ending other probes locks judges settles) =
    by verdict ending judges settles calls.made (call-ran facts earlier later p
    (probing ++ locking ++ LoadC j v ∷ (loads ++ ending)) calls)
  where
    by : (verdict : Bool) (ending : List PcpuStep)
        → Judges (unknown facts j.number) limit (present_cpus facts) j amount (v +ℤ amount) loads verdict
        → EndsLimitedAdd cpu j amount verdict ending
        → own later p ≡ after p (probing ++ locking ++ LoadC j v ∷ (loads ++ ending)) (own earlier p)
        → Ran facts earlier later p (probing ++ locking ++ LoadC j v ∷ (loads ++ ending))
        → Says facts earlier later p j limit amount verdict
    by verdict ending judges (yes_ends u) made ran =
        record {
          end = ran.end;
          kept = ran.kept;
          none_since = ran.none_since;
          on_yes =
              λ is some.
              locked-keeps facts earlier later p cpu j limit amount calls.legal owner nothing_carried v u probing
              locking loads ran.end
              probes locks judges ran.run ran.kept;
          on_no = λ is. absurd (true≢false is);
        }
    by verdict ending judges no_ends made ran =
        record {
          end = ran.end;
          kept = ran.kept;
          none_since = ran.none_since;
          on_yes = λ is some. absurd (true≢false (sym is));
          on_no =
              λ is.
              locked-passes facts earlier later p cpu j limit amount calls.legal owner nothing_carried v probing locking
              loads ran.end
              probes locks judges ran.run
              (made ∙ sym (run-own p (probing ++ locking ++ LoadC j v ∷ (loads ++ Unlock j ∷ [])) earlier ran.end
              ran.run)) ran.kept;
        }

pub limited-yes : (facts : PcpuFacts) (earlier later : History) (p : ℕ) (cpu : CpuId) (j : PcpuId) (limit amount : ℤ)
    (steps : List PcpuStep)
    → MadeSteps facts earlier later p steps → owner_in role later p ≡ Some cpu
    → carried j.number (own earlier p) ≡ pos 0 → amount ≢ pos 0
    → IsLimitedAdd (batch_at facts.base j.number) (unknown facts j.number) (present_cpus facts) cpu j limit amount steps
    true
    → KeepsLimit facts earlier later p j limit amount
limited-yes facts earlier later p cpu j limit amount steps calls owner nothing_carried some is =
    ((limited-says facts earlier later p cpu j limit amount steps true calls owner nothing_carried is).on_yes refl
    some).keeps

pub limited-no : (facts : PcpuFacts) (earlier later : History) (p : ℕ) (cpu : CpuId) (j : PcpuId) (limit amount : ℤ)
    (steps : List PcpuStep)
    → MadeSteps facts earlier later p steps → owner_in role later p ≡ Some cpu
    → carried j.number (own earlier p) ≡ pos 0
    → IsLimitedAdd (batch_at facts.base j.number) (unknown facts j.number) (present_cpus facts) cpu j limit amount steps
    false
    → PassesLimit facts earlier later p j limit amount
limited-no facts earlier later p cpu j limit amount steps calls owner nothing_carried is =
    ((limited-says facts earlier later p cpu j limit amount steps false calls owner nothing_carried is).on_no
    refl).passes
