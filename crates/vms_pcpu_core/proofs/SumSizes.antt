-- For other crates too: the answer of a sum is small.
use Rattle.std.proofs.Common.{◌≡◌, ℕ, suc, ◌+◌, ◌*◌, ◌≤◌, Bool, true, false, List, [], ◌∷◌, ◌++◌, length, ℤ, pos, ◌≤ℤ◌}
use Rattle.std.proofs.Common.{unsigned_abs, subst, if◌then◌else◌, arith}
use Rattle.std.proofs.lemmas.Int.{ints}
use Rattle.vms_history.specs.Common.{CpuId, PcpuId, CpuState, is_present, present_from}
use Rattle.vms_history.specs.declared.events.Event.{Event}
use Rattle.vms_history.proofs.Common.{base_can_begin}
use Rattle.vms_pcpu_core.specs.declared.steps.PcpuFacts.{PcpuFacts}
use Rattle.vms_pcpu_core.specs.declared.steps.PcpuStep.{PcpuStep}
use Rattle.vms_pcpu_core.specs.declared.steps.PcpuStep.TheVariants.{LoadL, LoadC, Unlock}
use Rattle.vms_pcpu_core.specs.Common.{most_batch, LoadsEach, IsSum, present_cpus, no_cpu, one_cpu, summed, percpu}
use Rattle.vms_pcpu_core.specs.Common.{History, IsLegal, most_number, event, MadeSteps, batch_at, most_sum}
use Rattle.vms_pcpu_core.proofs.Bounds.{locals-bounded}
use Rattle.vms_pcpu_core.proofs.CallsWithin.{call-ran}
use Rattle.vms_pcpu_core.proofs.SumMoments.{legal-earlier}
use Rattle.vms_pcpu_core.proofs.StepsInRow.{RunsBetween, run-append, run-extends}
use Rattle.vms_pcpu_core.proofs.Sizes.{step_number-small}

-- there are at most as many present CPUs as CPUs
present-few : (n : ℕ) (xs : List CpuState) → length (present_from n xs) ≤ length xs
present-few n [] = omega arith
present-few n (x ∷ xs) = by (is_present x) (present-few (suc n) xs)
  where
    by : (b : Bool) → length (present_from (suc n) xs) ≤ length xs
        → length (if b then record { number = n } ∷ present_from (suc n) xs else present_from (suc n) xs)
        ≤ length (x ∷ xs)
    by true rest = omega arith
    by false rest = omega arith

module _ (facts : PcpuFacts) (p : ℕ) (j : PcpuId) (g : History) (legal : IsLegal facts g) where
  -- each load of a local part found at most a batch
  loads-small : (cpus : List CpuId) (ks : List PcpuStep) (sum : ℤ) (h : History) → LoadsEach j cpus ks sum
      → RunsBetween p ks h g → pos (unsigned_abs sum) ≤ℤ pos (length cpus * most_batch)
  loads-small cpus ks sum h no_cpu run = omega (arith, ints)
  loads-small cpus ks sum h (one_cpu c d others rest total each) run =
      let before : History = run.0 ++ h in
      let e : Event PcpuStep = event p (LoadL j c d) in
      let made_at : IsLegal facts (e ∷ before) =
      legal-earlier facts g (e ∷ before) legal (run-extends p rest (e ∷ before) g run.2) in
      let within = (locals-bounded facts before made_at.0).within c.number j.number made_at.2.cpu made_at.2.counter in
      let batch = ((base_can_begin percpu facts g legal).counters j.number made_at.2.counter).batch_most in
      let found : unsigned_abs d ≤ batch_at facts.base j.number =
      subst (λ v. unsigned_abs v ≤ batch_at facts.base j.number) made_at.2.value within in
      let more : suc (length others) * most_batch ≡ most_batch + length others * most_batch = omega arith in
      omega (arith, ints, found, batch, more, loads-small others rest total (e ∷ before) each run.2)

sum-ran : (facts : PcpuFacts) (p : ℕ) (j : PcpuId) (h g : History) (steps : List PcpuStep) (answer : ℤ)
    → IsSum (present_cpus facts) j steps answer → IsLegal facts g → RunsBetween p steps h g
    → unsigned_abs answer ≤ most_sum
sum-ran facts p j h g steps answer (summed v sum locking loads locks each) legal run =
    let base = base_can_begin percpu facts g legal in
    let parts = run-append p locking (LoadC j v ∷ (loads ++ Unlock j ∷ [])) h g run in
    let before : History = parts.2.0 ++ parts.0 in
    let e : Event PcpuStep = event p (LoadC j v) in
    let two = run-append p loads (Unlock j ∷ []) (e ∷ before) g parts.2.2 in
    let at_end : IsLegal facts two.0 =
    legal-earlier facts g two.0 legal (run-extends p (Unlock j ∷ []) two.0 g two.2) in
    let made_at : IsLegal facts (e ∷ before) =
    legal-earlier facts two.0 (e ∷ before) at_end (run-extends p loads (e ∷ before) two.0 two.1) in
    let count : unsigned_abs v ≤ most_number = step_number-small facts e before made_at in
    let few = present-few 0 facts.cpus in
    let full = base.lengths.one_state_each in
    let cpus = base.layout.cpus_most in
    omega (
      arith,
      ints,
      count,
      few,
      full,
      cpus,
      loads-small facts p j two.0 at_end (present_cpus facts) loads sum (e ∷ before) each two.1,
    )

pub sum-small : (facts : PcpuFacts) (earlier later : History) (p : ℕ) (j : PcpuId) (steps : List PcpuStep) (answer : ℤ)
    → MadeSteps facts earlier later p steps → IsSum (present_cpus facts) j steps answer
    → unsigned_abs answer ≤ most_sum
sum-small facts earlier later p j steps answer made is =
    let ran = call-ran facts earlier later p steps made in
    sum-ran facts p j earlier ran.end steps answer is ran.legal ran.run
