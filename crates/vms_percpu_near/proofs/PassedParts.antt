-- What the loads of the local parts find, one CPU after another, under the lock.
use Rattle.std.proofs.Common.{◌≡◌, ℕ, suc, ◌+◌, ◌<◌, true, List, [], ◌∷◌, ◌++◌, length, get_or, ℤ, pos, ◌+ℤ◌, ◌-ℤ◌}
use Rattle.std.proofs.Common.{◌≤ℤ◌, refl, sym, ap, subst, ◌∙◌, arith, nat_eq}
use Rattle.std.proofs.lemmas.Int.{ints}
use Rattle.vms_history.specs.Common.{Absent, CpuState, Dead, Extends, Online, PcpuId, after, own, present_from}
use Rattle.vms_history.specs.declared.events.Event.{Event}
use Rattle.vms_history.proofs.Common.{Extends-both, if-either, own-mine, own-on_top, Extends-same}
use Rattle.vms_pcpu_core.specs.declared.steps.PcpuFacts.{PcpuFacts}
use Rattle.vms_pcpu_core.specs.declared.steps.PcpuStep.{PcpuStep}
use Rattle.vms_pcpu_core.specs.declared.steps.PcpuStep.TheVariants.{LoadL}
use Rattle.vms_pcpu_core.specs.Common.{AreLoads, History, IsLegal, IsPcpu, LoadsEach, MadeSteps, Watches, by_others}
use Rattle.vms_pcpu_core.specs.Common.{by_others_between, count_at, cpu_at, event, fall, holds_lock, local_at, locals}
use Rattle.vms_pcpu_core.specs.Common.{no_cpu, numbers_after, one_cpu, rise}
use Rattle.vms_pcpu_core.proofs.Common.{locals-bounded}
use Rattle.vms_pcpu_core.proofs.KnowledgeKept.{count-stays}
use Rattle.vms_percpu_near.proofs.MadeSteps.{FirstAt, first-at}
use Rattle.vms_percpu_near.proofs.OthersMoves.{first_locals, follows-between, locals-follow}

module _ (facts : PcpuFacts) (p : ℕ) (j : PcpuId) (j_in : IsPcpu facts j.number) where
  -- others acted meanwhile, while p holds the lock
  module _ (h g : History) (more : Extends g h) (same : own g p ≡ own h p) (legal : IsLegal facts g)
      (holds : holds_lock j.number (own h p) ≡ true) where
    none : own more.0 p ≡ []
    none = own-on_top more.0 h p [] (ap (λ (es : History). own es p) (sym more.1) ∙ same)

    watches : Watches facts more.0 h p
    watches = record { legal = subst (IsLegal facts) more.1 legal; loads = subst AreLoads (sym none) tt }

    pub others-count : count_at (numbers_after facts g) j.number ≡ count_at (numbers_after facts h) j.number
    others-count = ap (λ (es : History). count_at (numbers_after facts es) j.number) more.1
        ∙ count-stays facts more.0 h p j.number watches j_in holds

    pub others-locals : (n : ℕ)
        → (first_locals facts j.number n g ≤ℤ
        (first_locals facts j.number n h +ℤ by_others_between rise p j.number h g))
        × ((first_locals facts j.number n h -ℤ by_others_between fall p j.number h g) ≤ℤ
        first_locals facts j.number n g)
    others-locals n = follows-between p j.number (first_locals facts j.number n) h g more
        (locals-follow facts p j.number n more.0 h watches j_in holds)

  -- the moment after the loads: what they found, and what had been found before, is off from all local parts by no more
  -- than others add up and down
  pub record Passed (h later : History) (n : ℕ) (loads ending : List PcpuStep) (sum : ℤ) : Type 0 where
    pub end : History
    pub since : Extends end h
    pub rest : MadeSteps facts end later p ending
    pub own_end : own end p ≡ after p loads (own h p)
    pub legal : IsLegal facts end
    pub count : count_at (numbers_after facts end) j.number ≡ count_at (numbers_after facts h) j.number
    pub most : locals facts.layout (numbers_after facts end) j.number ≤ℤ
        ((sum +ℤ first_locals facts j.number n h) +ℤ by_others_between rise p j.number h end)
    pub least : ((sum +ℤ first_locals facts j.number n h) -ℤ by_others_between fall p j.number h end) ≤ℤ
        locals facts.layout (numbers_after facts end) j.number

  -- one load more before the others
  passed-one : (n : ℕ) (d : ℤ) (steps ending : List PcpuStep) (sum : ℤ) (h later : History)
      → holds_lock j.number (own h p) ≡ true
      → (first : FirstAt facts h later p (LoadL j (record { number = n }) d) (steps ++ ending))
      → Passed (event p (LoadL j (record { number = n }) d) ∷ first.moment) later (suc n) steps ending sum
      → Passed h later n (LoadL j (record { number = n }) d ∷ steps) ending (d +ℤ sum)
  passed-one n d steps ending sum h later holds first rest =
      let e : Event PcpuStep = event p (LoadL j (record { number = n }) d) in
      let next : History = e ∷ first.moment in
      let moved = others-locals h first.moment first.since first.own_same first.legal.0 holds n in
      let value : local_at (numbers_after facts first.moment) n j.number ≡ d = first.legal.2.value in
      let rises : by_others rise p j.number next ≡ by_others rise p j.number first.moment =
      omega (arith, ints, if-either (nat_eq p p) (pos 0)) in
      let falls : by_others fall p j.number next ≡ by_others fall p j.number first.moment =
      omega (arith, ints, if-either (nat_eq p p) (pos 0)) in
      record {
        end = rest.end;
        since = Extends-both rest.end next h rest.since
            (Extends-both next first.moment h (e ∷ [], refl) first.since);
        rest = rest.rest;
        own_end = rest.own_end ∙ ap (after p steps) (own-mine e first.moment p refl
            ∙ ap (λ (es : History). e ∷ es) first.own_same);
        legal = rest.legal;
        count = rest.count ∙ others-count h first.moment first.since first.own_same first.legal.0 holds;
        most = omega (arith, ints, rest.most, moved.0, value, rises);
        least = omega (arith, ints, rest.least, moved.1, value, falls);
      }

  pub passed : (xs : List CpuState) (n : ℕ) (loads ending : List PcpuStep) (sum : ℤ) (h later : History)
      → n + length xs ≡ facts.layout.cpus
      → ((i c : ℕ) → c ≡ n + i → i < length xs → get_or xs i Absent ≡ cpu_at facts c)
      → IsLegal facts h → holds_lock j.number (own h p) ≡ true → LoadsEach j (present_from n xs) loads sum
      → MadeSteps facts h later p (loads ++ ending) → Passed h later n loads ending sum
  passed [] n loads ending sum h later all at legal holds no_cpu has =
      let last : n ≡ facts.layout.cpus = omega arith in
      let same : first_locals facts j.number n h ≡ locals facts.layout (numbers_after facts h) j.number =
      ap (λ (k : ℕ). first_locals facts j.number k h) last in
      record {
        end = h;
        since = Extends-same h;
        rest = has;
        own_end = refl;
        legal = legal;
        count = refl;
        most = omega (arith, ints, same);
        least = omega (arith, ints, same);
      }
  passed (Absent ∷ xs) n loads ending sum h later all at legal holds each has =
      let absent : cpu_at facts n ≡ Absent = sym (at 0 n (omega arith) (omega arith)) in
      let none : local_at (numbers_after facts h) n j.number ≡ pos 0 =
      (locals-bounded facts h legal).absent n j.number (omega arith) absent j_in in
      let rest = passed xs (suc n) loads ending sum h later (omega arith)
      (λ i c is below. at (suc i) c (omega arith) (omega arith)) legal holds each has in
      record {
        end = rest.end;
        since = rest.since;
        rest = rest.rest;
        own_end = rest.own_end;
        legal = rest.legal;
        count = rest.count;
        most = omega (arith, ints, rest.most, none);
        least = omega (arith, ints, rest.least, none);
      }
  passed (Online ∷ xs) n loads ending sum h later all at legal holds (one_cpu c d cpus steps rest each) has =
      let first = first-at facts p h (LoadL j c d) (steps ++ ending) later has in
      passed-one n d steps ending rest h later holds first
      (passed xs (suc n) steps ending rest (event p (LoadL j c d) ∷ first.moment) later (omega arith)
      (λ i k is below. at (suc i) k (omega arith) (omega arith)) first.legal
      (ap (holds_lock j.number) (own-mine (event p (LoadL j c d)) first.moment p refl ∙ ap (λ (es : History).
      event p (LoadL j c d) ∷ es) first.own_same) ∙ holds) each first.rest)
  passed (Dead ∷ xs) n loads ending sum h later all at legal holds (one_cpu c d cpus steps rest each) has =
      let first = first-at facts p h (LoadL j c d) (steps ++ ending) later has in
      passed-one n d steps ending rest h later holds first
      (passed xs (suc n) steps ending rest (event p (LoadL j c d) ∷ first.moment) later (omega arith)
      (λ i k is below. at (suc i) k (omega arith) (omega arith)) first.legal
      (ap (holds_lock j.number) (own-mine (event p (LoadL j c d)) first.moment p refl ∙ ap (λ (es : History).
      event p (LoadL j c d) ∷ es) first.own_same) ∙ holds) each first.rest)
