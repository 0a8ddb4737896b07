-- The moments at which the parts of a sum are found.
use Rattle.std.proofs.Common.{◌≡◌, ℕ, suc, zero, ◌+◌, ◌<◌, ◌≤◌, Bool, true, false, true≢false, List, [], ◌∷◌, ◌++◌}
use Rattle.std.proofs.Common.{length, get_or, ℤ, pos, ◌+ℤ◌, refl, sym, ap, subst, ◌∙◌, append_assoc, if◌then◌else◌}
use Rattle.std.proofs.Common.{nat_eq, eq-eqb, eqb-true, arith}
use Rattle.std.proofs.lemmas.Int.{ints}
use Rattle.std.proofs.lemmas.Bool.{ne_eqb}
use Rattle.vms_history.specs.Common.{PcpuId, CpuState, Online, Dead, Absent, Extends, own, sum_below, present_from}
use Rattle.vms_history.specs.Common.{is_present}
use Rattle.vms_history.specs.declared.events.Event.{Event}
use Rattle.vms_history.proofs.Common.{Extends-both, own-mine, prefix_is_legal}
use Rattle.vms_pcpu_core.specs.declared.steps.PcpuFacts.{PcpuFacts}
use Rattle.vms_pcpu_core.specs.declared.steps.PcpuStep.{PcpuStep}
use Rattle.vms_pcpu_core.specs.declared.steps.PcpuStep.TheVariants.{LoadL}
use Rattle.vms_pcpu_core.specs.Common.{local_at, LoadsEach, no_cpu, one_cpu, percpu, History, IsLegal, numbers_after}
use Rattle.vms_pcpu_core.specs.Common.{AreLoads, event}
use Rattle.vms_pcpu_core.proofs.StepsInRow.{RunsBetween, own-others_on, run-extends}

-- a history that a legal one goes on from is legal
pub legal-earlier : (facts : PcpuFacts) (g h : History) → IsLegal facts g → Extends g h → IsLegal facts h
legal-earlier facts g h legal more = prefix_is_legal percpu facts more.0 h (subst (IsLegal facts) more.1 legal)

-- the sum over the present CPUs of a list, the first of which has number n
abbrev pub listed : (ℕ → ℤ) → ℕ → List CpuState → ℤ
listed f n [] = pos 0
listed f n (x ∷ xs) = (if is_present x then f n else pos 0) +ℤ listed f (suc n) xs

listed-same : (f g : ℕ → ℤ) (n : ℕ) (xs : List CpuState) → ((c : ℕ) → n ≤ c → f c ≡ g c) → listed f n xs ≡ listed g n xs
listed-same f g n [] same = refl
listed-same f g n (x ∷ xs) same =
    omega (arith, ints, here (is_present x), listed-same f g (suc n) xs (λ c above. same c (omega arith)))
  where
    here : (b : Bool) → (if b then f n else pos 0) ≡ (if b then g n else pos 0)
    here true = same n (omega arith)
    here false = refl

-- where the absent CPUs have nothing, it is the sum over all
pub sum_below-listed : (f : ℕ → ℤ) (n m : ℕ) (xs : List CpuState) → m ≡ n + length xs
    → ((i c : ℕ) → c ≡ n + i → i < length xs → get_or xs i Absent ≡ Absent → f c ≡ pos 0)
    → sum_below f m ≡ sum_below f n +ℤ listed f n xs
sum_below-listed f n m [] is none = let same : m ≡ n = omega arith in rw same (omega (arith, ints))
sum_below-listed f n m (x ∷ xs) is none =
    let rest =
    sum_below-listed f (suc n) m xs (omega arith) (λ i c at below absent. none (suc i) c (omega arith) (omega arith)
    absent) in
    omega (arith, ints, rest, here x (none 0 n (omega arith) (omega arith)))
  where
    here : (y : CpuState) → (y ≡ Absent → f n ≡ pos 0) → (if is_present y then f n else pos 0) ≡ f n
    here Online nothing = refl
    here Dead nothing = refl
    here Absent nothing = sym (nothing refl)

-- what holds of the first of a list of CPUs and of the others holds of all
at-next : (Q : ℕ → Type 0) (n : ℕ) (x : CpuState) (xs : List CpuState) (b : Bool) → (is_present x ≡ b → Q n)
    → ((i c : ℕ) → c ≡ suc n + i → i < length xs → is_present (get_or xs i Absent) ≡ b → Q c)
    → (i c : ℕ) → c ≡ n + i → i < length (x ∷ xs) → is_present (get_or (x ∷ xs) i Absent) ≡ b → Q c
at-next Q n x xs b first rest zero c at below is = let same : n ≡ c = omega arith in subst Q same (first is)
at-next Q n x xs b first rest (suc i) c at below is = rest i c (omega arith) (omega arith) is

module _ (facts : PcpuFacts) (p : ℕ) (j : PcpuId) (won g : History) (legal : IsLegal facts g) where
  -- the events before each load of a local part, the CPUs of the list having numbers from n on
  pub record Found (n : ℕ) (xs : List CpuState) (sum : ℤ) : Type 0 where
    pub between : ℕ → History
    pub own_loads : (c : ℕ) → AreLoads (own (between c) p)
    pub kept : (c : ℕ) → Extends g (between c ++ won)
    pub loads : (i c : ℕ) → c ≡ n + i → i < length xs → is_present (get_or xs i Absent) ≡ true
        → (d : ℤ) × Extends g (event p (LoadL j (record { number = c }) d) ∷ (between c ++ won))
    pub below : (c : ℕ) → c < n → between c ≡ []
    pub no_load : (i c : ℕ) → c ≡ n + i → i < length xs → is_present (get_or xs i Absent) ≡ false → between c ≡ []
    pub total : sum ≡ listed (λ c. local_at (numbers_after facts (between c ++ won)) c j.number) n xs

  -- a present CPU before the others
  found-next : (n : ℕ) (x : CpuState) (xs : List CpuState) (m : History) (loads : List PcpuStep) (sum : ℤ)
      → is_present x ≡ true
      → AreLoads (own m p) → LoadsEach j (record { number = n } ∷ present_from (suc n) xs) loads sum
      → RunsBetween p loads (m ++ won) g
      → ((m' : History) (steps : List PcpuStep) (rest : ℤ) → AreLoads (own m' p)
      → LoadsEach j (present_from (suc n) xs) steps rest
      → RunsBetween p steps (m' ++ won) g → Found (suc n) xs rest)
      → Found n (x ∷ xs) sum
  found-next n x xs m loads sum here own_are (one_cpu c d cpus steps rest each) run next =
      let others : History = run.0 in
      let e : Event PcpuStep = event p (LoadL j (record { number = n }) d) in
      let before : History = others ++ m in
      let below_it : others ++ (m ++ won) ≡ before ++ won = sym (append_assoc others m won) in
      let mine : own before p ≡ own m p = own-others_on others m p run.1 in
      let run_on : RunsBetween p steps ((e ∷ before) ++ won) g =
      subst (λ (es : History). RunsBetween p steps (e ∷ es) g) below_it run.2 in
      let later : Extends g (e ∷ (before ++ won)) = run-extends p steps ((e ∷ before) ++ won) g run_on in
      let own_before : AreLoads (own before p) = subst AreLoads (sym mine) own_are in
      let tail : Found (suc n) xs rest =
      next (e ∷ before) steps rest (subst AreLoads (sym (own-mine e before p refl)) (tt, own_before)) each run_on in
      let between : ℕ → History = λ k. if nat_eq k n then before else tail.between k in
      let at_n : between n ≡ before = ap (λ (b : Bool). if b then before else tail.between n) (eq-eqb n n refl) in
      let others_are : (k : ℕ) → (k ≡ n → ⊥) → between k ≡ tail.between k =
      λ k other. ap (λ (b : Bool). if b then before else tail.between k) (ne_eqb k n other) in
      let by_cases : (P : ℕ → History → Type 0) (k : ℕ) → P n before → P k (tail.between k) → P k (between k) =
      λ P k is_n is_other. pick P k (nat_eq k n) n before (tail.between k) refl is_n is_other in
      record {
        between = between;
        own_loads = λ k. by_cases (λ i es. AreLoads (own es p)) k own_before (tail.own_loads k);
        kept =
            λ k. by_cases (λ i es. Extends g (es ++ won)) k
            (Extends-both g (e ∷ (before ++ won)) (before ++ won) later (e ∷ [], refl)) (tail.kept k);
        loads =
            at-next (λ k. (v : ℤ) × Extends g (event p (LoadL j (record { number = k }) v) ∷ (between k ++ won)))
            n x xs true
            (λ present.
            (d, subst (λ es. Extends g (event p (LoadL j (record { number = n }) d) ∷ (es ++ won))) (sym at_n) later))
            (λ i k at k_below present.
            let found = tail.loads i k at k_below present in (
              found.0,
              subst (λ es. Extends g (event p (LoadL j (record { number = k }) found.0) ∷ (es ++ won)))
                  (sym (others_are k (omega arith))) found.1,
            ));
        below = λ k k_below. others_are k (omega arith) ∙ tail.below k (omega arith);
        no_load =
            at-next (λ k. between k ≡ []) n x xs false (λ absent. absurd (true≢false (sym here ∙ absent)))
            (λ i k at k_below absent. others_are k (omega arith) ∙ tail.no_load i k at k_below absent);
        total =
            let f : ℕ → ℤ = λ k. local_at (numbers_after facts (between k ++ won)) k j.number in
            let value : local_at (numbers_after facts (before ++ won)) n j.number ≡ d =
            (legal-earlier facts g (e ∷ (before ++ won)) legal later).2.value in
            let at_first : f n ≡ d = ap (λ es. local_at (numbers_after facts (es ++ won)) n j.number) at_n ∙ value in
            let at_rest : listed f (suc n) xs ≡ listed (λ k. local_at (numbers_after facts (tail.between k ++ won)) k
            j.number) (suc n) xs =
            listed-same f (λ k. local_at (numbers_after facts (tail.between k ++ won)) k j.number) (suc n) xs
            (λ k above. ap (λ es. local_at (numbers_after facts (es ++ won)) k j.number) (others_are k (omega arith)))
            in
            let at_here : (if is_present x then f n else pos 0) ≡ f n = rw here refl in
            omega (arith, ints, tail.total, at_first, at_rest, at_here);
      }
    where
      pick : (P : ℕ → History → Type 0) (k : ℕ) (b : Bool) (n : ℕ) (es fs : History) → nat_eq k n ≡ b → P n es → P k fs
          → P k (if b then es else fs)
      pick P k true n es fs same is_n is_other = subst (λ i. P i es) (sym (eqb-true k n same)) is_n
      pick P k false n es fs other is_n is_other = is_other

  -- the loads of the local parts of a list of CPUs, from a moment since the lock was won
  pub found-loads : (xs : List CpuState) (n : ℕ) (m : History) (loads : List PcpuStep) (sum : ℤ) → AreLoads (own m p)
      → LoadsEach j (present_from n xs) loads sum → RunsBetween p loads (m ++ won) g → Found n xs sum
  found-loads [] n m loads sum own_are no_cpu run =
      record {
        between = λ c. [];
        own_loads = λ c. tt;
        kept = λ c. (m, run);
        loads = λ i c at below present. absurd (omega arith);
        below = λ c c_below. refl;
        no_load = λ i c at below absent. refl;
        total = refl;
      }
  found-loads (Absent ∷ xs) n m loads sum own_are each run =
      let rest = found-loads xs (suc n) m loads sum own_are each run in
      record {
        between = rest.between;
        own_loads = rest.own_loads;
        kept = rest.kept;
        loads =
            at-next (λ k. (v : ℤ) × Extends g (event p (LoadL j (record { number = k }) v) ∷ (rest.between k ++ won)))
            n Absent xs true (λ present. absurd (true≢false (sym present))) rest.loads;
        below = λ c c_below. rest.below c (omega arith);
        no_load = at-next (λ k. rest.between k ≡ []) n Absent xs false (λ absent. rest.below n (omega arith))
            rest.no_load;
        total = omega (arith, ints, rest.total);
      }
  found-loads (Online ∷ xs) n m loads sum own_are each run =
      found-next n Online xs m loads sum refl own_are each run (λ m' steps rest. found-loads xs (suc n) m' steps rest)
  found-loads (Dead ∷ xs) n m loads sum own_are each run =
      found-next n Dead xs m loads sum refl own_are each run (λ m' steps rest. found-loads xs (suc n) m' steps rest)
