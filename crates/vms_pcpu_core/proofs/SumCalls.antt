-- For other crates too: what a call that sums a counter found.
use Rattle.std.proofs.Common.{◌≡◌, ℕ, ◌<◌, true, false, true≢false, List, [], ◌∷◌, ◌++◌, get_or, ℤ, ◌+ℤ◌, ◌-ℤ◌}
use Rattle.std.proofs.Common.{unsigned_abs, refl, sym, ap, subst, ◌∙◌, arith}
use Rattle.std.proofs.lemmas.Int.{ints}
use Rattle.vms_history.specs.Common.{PcpuId, Absent, IsCpu, Extends, own, after, sum_below, is_present}
use Rattle.vms_history.specs.declared.events.Event.{Event}
use Rattle.vms_history.proofs.Common.{Extends-both, own-mine, base_can_begin}
use Rattle.vms_pcpu_core.specs.declared.steps.PcpuFacts.{PcpuFacts}
use Rattle.vms_pcpu_core.specs.declared.steps.PcpuStep.{PcpuStep}
use Rattle.vms_pcpu_core.specs.declared.steps.PcpuStep.TheVariants.{LoadL, LoadC, Won, Unlock}
use Rattle.vms_pcpu_core.specs.Common.{count_at, local_at, cpu_at, IsPcpu, LoadsEach, IsSum, IsCompare, sign_of}
use Rattle.vms_pcpu_core.specs.Common.{unknown, present_cpus, summed, far, near, percpu, History, IsLegal}
use Rattle.vms_pcpu_core.specs.Common.{numbers_after, event, MadeSteps, SumsUp, TellsRoughly, TellsBySum, true_total}
use Rattle.vms_pcpu_core.specs.Common.{AreLoads, added_since}
use Rattle.vms_pcpu_core.specs.declared.answers.Compare.{Compare}
use Rattle.vms_pcpu_core.proofs.Bounds.{locals-bounded}
use Rattle.vms_pcpu_core.proofs.CallsWithin.{call-ran, run-locks}
use Rattle.vms_pcpu_core.proofs.SumMoments.{legal-earlier, sum_below-listed, found-loads}
use Rattle.vms_pcpu_core.proofs.Drift.{locals-size}
use Rattle.vms_pcpu_core.proofs.StepsInRow.{RunsBetween, run-append, run-own, run-extends}
use Rattle.vms_pcpu_core.proofs.Totals.{totals-kept}
use Rattle.vms_pcpu_core.proofs.KnowledgeKept.{sum-true, rough-sign}

-- the count and the local parts that were found since the lock was won
pub record Summed (facts : PcpuFacts) (p : ℕ) (j : PcpuId) (free g : History) (sum : ℤ) : Type 0 where
  pub between : ℕ → History
  pub kept : (c : ℕ) → Extends g (between c ++ (event p (Won j) ∷ free))
  pub loads : (c : ℕ) → IsCpu facts.layout c → is_present (cpu_at facts c) ≡ true
      → (d : ℤ) × Extends g (event p (LoadL j (record { number = c }) d)
      ∷ (between c ++ (event p (Won j) ∷ free)))
  pub no_load : (c : ℕ) → IsCpu facts.layout c → is_present (cpu_at facts c) ≡ false → between c ≡ []
  pub total : sum ≡ true_total facts (event p (Won j) ∷ free) j.number
      +ℤ sum_below (λ c. added_since (between c) (event p (Won j) ∷ free) c j.number) facts.layout.cpus

pub summed-total : (facts : PcpuFacts) (p : ℕ) (j : PcpuId) (free g : History) (v sum : ℤ) (loads : List PcpuStep)
    → IsLegal facts g
    → LoadsEach j (present_cpus facts) loads sum
    → RunsBetween p (LoadC j v ∷ loads) (event p (Won j) ∷ free) g
    → Summed facts p j free g (v +ℤ sum)
summed-total facts p j free g v sum loads legal each run =
    let won : History = event p (Won j) ∷ free in
    let e : Event PcpuStep = event p (LoadC j v) in
    let found : History = run.0 ++ won in
    let counted : IsLegal facts (e ∷ found) =
    legal-earlier facts g (e ∷ found) legal (run-extends p loads (e ∷ found) g run.2) in
    let j_in : IsPcpu facts j.number = counted.2.counter in
    let base = base_can_begin percpu facts g legal in
    let own_are : AreLoads (own (e ∷ run.0) p) =
    subst AreLoads (sym (own-mine e run.0 p refl ∙ ap (λ es. e ∷ es) run.1)) (tt, tt) in
    let parts = found-loads facts p j won g legal facts.cpus 0 (e ∷ run.0) loads sum own_are each run.2 in
    let true_sum =
    sum-true facts free run.0 parts.between p j
    (record { legal = counted.0; loads = subst AreLoads (sym run.1) tt })
    (λ c c_in. record {
      legal = legal-earlier facts g (parts.between c ++ won) legal (parts.kept c);
      loads = parts.own_loads c;
    }) in
    let all =
    sum_below-listed (λ c. local_at (numbers_after facts (parts.between c ++ won)) c j.number) 0 facts.layout.cpus
    facts.cpus
    (omega (arith, base.lengths.one_state_each))
    (λ i c at below absent.
    let same : i ≡ c = omega arith in
    (locals-bounded facts (parts.between c ++ won) (legal-earlier facts g (parts.between c ++ won) legal
    (parts.kept c))).absent
    c j.number (omega (arith, base.lengths.one_state_each)) (subst (λ (k : ℕ). get_or facts.cpus k Absent ≡ Absent) same
    absent) j_in) in
    record {
      between = parts.between;
      kept = parts.kept;
      loads = λ c c_in present. parts.loads c c (omega arith) (omega (arith, base.lengths.one_state_each)) present;
      no_load = λ c c_in absent. parts.no_load c c (omega arith) (omega (arith, base.lengths.one_state_each)) absent;
      total = omega (arith, ints, true_sum, all, parts.total, counted.2.value);
    }

pub sum-call : (facts : PcpuFacts) (earlier later : History) (p : ℕ) (j : PcpuId) (steps : List PcpuStep) (answer : ℤ)
    → MadeSteps facts earlier later p steps → IsSum (present_cpus facts) j steps answer
    → SumsUp facts earlier later p j answer
sum-call facts earlier later p j steps answer calls (summed v sum locking loads locks each) =
    let ran = call-ran facts earlier later p (locking ++ LoadC j v ∷ (loads ++ Unlock j ∷ [])) calls in
    let locked = run-append p locking (LoadC j v ∷ (loads ++ Unlock j ∷ [])) earlier ran.end ran.run in
    let wins = run-locks p j locking earlier locked.0 locks locked.1 in
    let free : History = wins.0 in
    let won : History = event p (Won j) ∷ free in
    let since : RunsBetween p ((LoadC j v ∷ loads) ++ Unlock j ∷ []) won ran.end =
    subst (λ (h : History). RunsBetween p ((LoadC j v ∷ loads) ++ Unlock j ∷ []) h ran.end) wins.1 locked.2 in
    let loaded = run-append p (LoadC j v ∷ loads) (Unlock j ∷ []) won ran.end since in
    let g : History = loaded.0 in
    let to_g : Extends later g =
    Extends-both later ran.end g ran.kept (run-extends p (Unlock j ∷ []) g ran.end loaded.2) in
    let parts =
    summed-total facts p j free g v sum loads (legal-earlier facts later g calls.legal to_g) each loaded.1 in
    let to_won : Extends later won = Extends-both later g won to_g (run-extends p (LoadC j v ∷ loads) won g loaded.1) in
    record {
      free = free;
      wins = record { since = wins.2; kept = to_won };
      won = won;
      after_win = refl {a = won};
      between = parts.between;
      loads =
          λ c c_in present.
          let load = parts.loads c c_in present in (
            load.0,
            record {
              since = (parts.between c, refl {a = parts.between c ++ won});
              kept =
                  Extends-both later g
                  (event p (LoadL j (record { number = c }) load.0) ∷ (parts.between c ++ won)) to_g load.1;
            },
          );
      no_load = parts.no_load;
      total = parts.total;
    }

pub compare-rough : (facts : PcpuFacts) (earlier later : History) (p : ℕ) (j : PcpuId) (rhs : ℤ) (steps : List PcpuStep)
    (answer : Compare)
    → MadeSteps facts earlier later p steps → IsCompare (unknown facts j.number) (present_cpus facts) j rhs steps answer
    → answer.rough ≡ true → TellsRoughly facts earlier later p j rhs answer
compare-rough facts earlier later p j rhs steps answer calls (far v off) is =
    let ran = call-ran facts earlier later p (LoadC j v ∷ []) calls in
    let loaded : History = ran.run.0 ++ earlier in
    let load : History = event p (LoadC j v) ∷ loaded in
    let kept : Extends later load = subst (Extends later) ran.run.2 ran.kept in
    let legal : IsLegal facts load = legal-earlier facts later load calls.legal kept in
    let whole = totals-kept facts loaded legal.0 j.number legal.2.counter in
    let size = locals-size facts loaded j.number legal.0 legal.2.counter in
    let count : count_at (numbers_after facts loaded) j.number ≡ v = legal.2.value in
    record {
      count = v;
      loaded = loaded;
      loads = record { since = (ran.run.0, refl {a = loaded}); kept = kept };
      far = off;
      hidden = omega (arith, ints, whole, size, count);
      sign =
          ap (λ (x : ℤ). sign_of (x -ℤ rhs)) (sym count)
          ∙ rough-sign facts loaded j.number rhs legal.0 legal.2.counter
          (subst (λ (x : ℤ). unknown facts j.number < unsigned_abs (x -ℤ rhs)) (sym count) off);
    }
compare-rough facts earlier later p j rhs steps answer calls (near v sum rest at_most is_sum) is = absurd
    (true≢false (sym is))

pub compare-by_sum : (facts : PcpuFacts) (earlier later : History) (p : ℕ) (j : PcpuId) (rhs : ℤ)
    (steps : List PcpuStep) (answer : Compare)
    → MadeSteps facts earlier later p steps → IsCompare (unknown facts j.number) (present_cpus facts) j rhs steps answer
    → answer.rough ≡ false → TellsBySum facts earlier later p j rhs answer
compare-by_sum facts earlier later p j rhs steps answer calls (far v off) is = absurd (true≢false is)
compare-by_sum facts earlier later p j rhs steps answer calls (near v sum rest at_most is_sum) is =
    let ran = call-ran facts earlier later p (LoadC j v ∷ rest) calls in
    let loaded : History = event p (LoadC j v) ∷ (ran.run.0 ++ earlier) in
    let since : Extends loaded earlier = (event p (LoadC j v) ∷ ran.run.0, refl {a = loaded}) in
    let run : RunsBetween p rest loaded ran.end = ran.run.2 in
    let goes_on : Extends later loaded =
    Extends-both later ran.end loaded ran.kept (run-extends p rest loaded ran.end run) in
    let made : own later p ≡ after p rest (own loaded p) =
    calls.made ∙ sym (ap (after p rest) (run-own p (LoadC j v ∷ []) earlier loaded (ran.run.0, ran.run.1, refl))) in
    let sums =
    sum-call facts loaded later p j rest sum (record { legal = calls.legal; goes_on = goes_on; made = made })
    is_sum in
    record {
      sum = sum;
      sums_up =
          record {
            free = sums.free;
            wins = record {
              since = Extends-both sums.free loaded earlier sums.wins.since since;
              kept = sums.wins.kept;
            };
            won = sums.won;
            after_win = sums.after_win;
            between = sums.between;
            loads = sums.loads;
            no_load = sums.no_load;
            total = sums.total;
          };
      sign = refl;
    }
