-- Steps that set nothing of a zone leave its mark, its thresholds, how often these were set, and the CPUs' states.
use Rattle.std.proofs.Common.{◌≡◌, ◌≢◌, ℕ, suc, ◌+◌, ◌≤◌, ◌&&◌, nat_eq, Bool, true, false, if◌then◌else◌, List, [], ◌∷◌}
use Rattle.std.proofs.Common.{Option, refl, sym, ◌∙◌, subst, arith}
use Rattle.std.proofs.lemmas.Bool.{ne_eqb}
use Rattle.vms_calls.specs.Common.{Choice, CpuId, CpuState, Facts, History, LoadM, Rates, RatesMarked, SetM, SetO, SetT}
use Rattle.vms_calls.specs.Common.{Step, Visits, acknowledged_steps, after, cpu_after, cpu_in, in_turn, mark_for}
use Rattle.vms_calls.specs.Common.{mark_left, mark_left_by, mark_steps, marked, sets, sets_after, state_steps}
use Rattle.vms_calls.specs.Common.{threshold_after, threshold_in, threshold_steps, unmarked}
use Rattle.vms_calls.proofs.Common.{Each, OfLooks, each-append, states-each}

-- a step that sets neither the mark nor a threshold of zone g, and makes no CPU absent
abbrev pub Spares : ℕ → Step → Type 0
Spares g (SetM f m) = f.number ≢ g
Spares g (SetT c f t) = f.number ≢ g
Spares g (SetO c) = ⊥
Spares g _ = Unit {0}

module _ (g : ℕ) where
  sets-one : (c : ℕ) (step : Step) → Spares g step → (n : ℕ) → sets_after c g step n ≡ n
  sets-one c (SetT d f t) other n = rw (ne_eqb f.number g other) (by (nat_eq d.number c))
    where
      by : (b : Bool) → (if b && false then suc n else n) ≡ n
      by true = refl
      by false = refl
  sets-one c _ other n = refl

  threshold-one : (c : ℕ) (step : Step) → Spares g step → (t : ℕ) → threshold_after c g step t ≡ t
  threshold-one c (SetT d f u) other t = rw (ne_eqb f.number g other) (by (nat_eq d.number c))
    where
      by : (b : Bool) → (if b && false then u else t) ≡ t
      by true = refl
      by false = refl
  threshold-one c _ other t = refl

  cpu-one : (c : ℕ) (step : Step) → Spares g step → (x : CpuState) → cpu_after c step x ≡ x
  cpu-one c (SetO d) none x = absurd none
  cpu-one c _ other x = refl

  mark-one : (step : Step) → Spares g step → (m : ℕ) → mark_left_by g step m ≡ m
  mark-one (SetM f n) other m = rw (ne_eqb f.number g other) refl
  mark-one _ other m = refl

  pub spared-mark : (ks : List Step) → Each (Spares g) ks → (m : ℕ) → mark_left g m ks ≡ m
  spared-mark [] each m = refl
  spared-mark (k ∷ ks) each m = spared-mark ks each.1 (mark_left_by g k m) ∙ mark-one k each.0 m

  module _ (facts : Facts) (p c : ℕ) where
    pub spared-sets : (ks : List Step) → Each (Spares g) ks → (h : History) → sets c g (after p ks h) ≡ sets c g h
    spared-sets [] each h = refl
    spared-sets (k ∷ ks) each h =
        spared-sets ks each.1 (record { caller = p; step = k } ∷ h) ∙ sets-one c k each.0 (sets c g h)

    pub spared-threshold : (ks : List Step) → Each (Spares g) ks → (h : History)
        → threshold_in facts c g (after p ks h) ≡ threshold_in facts c g h
    spared-threshold [] each h = refl
    spared-threshold (k ∷ ks) each h =
        spared-threshold ks each.1 (record { caller = p; step = k } ∷ h)
        ∙ threshold-one c k each.0 (threshold_in facts c g h)

    pub spared-cpu : (ks : List Step) → Each (Spares g) ks → (h : History)
        → cpu_in facts c (after p ks h) ≡ cpu_in facts c h
    spared-cpu [] each h = refl
    spared-cpu (k ∷ ks) each h =
        spared-cpu ks each.1 (record { caller = p; step = k } ∷ h) ∙ cpu-one c k each.0 (cpu_in facts c h)

  looks-spare : OfLooks (Spares g)
  looks-spare =
      record { value = λ k v. tt; system = λ i v. tt; group = λ c j w. tt; mark = λ f m a. tt; cpu = λ c x. tt }

  pub states-spare : (n : ℕ) (states : List CpuState) → Each (Spares g) (in_turn state_steps n states)
  states-spare n states = states-each (Spares g) looks-spare n states

  pub acknowledged-spare : (z : ℕ) (cs : List CpuId) (xs : List (Option ℕ))
      → Each (Spares g) (acknowledged_steps z cs xs)
  acknowledged-spare z [] xs = tt
  acknowledged-spare z (d ∷ cs) [] = tt
  acknowledged-spare z (d ∷ cs) (x ∷ xs) = (tt, acknowledged-spare z cs xs)

  -- and those that rate another zone
  module _ (z : ℕ) (other : z ≢ g) where
    pub thresholds-spare : (t : ℕ) (cs : List CpuId) → Each (Spares g) (threshold_steps z t cs)
    thresholds-spare t [] = tt
    thresholds-spare t (d ∷ cs) = (other, thresholds-spare t cs)

    marks-spare : (found mark : ℕ) → Each (Spares g) (mark_steps z found mark)
    marks-spare found mark = by (nat_eq mark found)
      where
        by : (b : Bool) → Each (Spares g) (if b then [] else SetM (record { number = z }) mark ∷ [])
        by true = tt
        by false = (other, tt)

    module _ (facts : Facts) (p : ℕ) (online : List CpuId) (Chooses : Choice) where
      pub rates-spare : (t m : ℕ) (h : History) (steps : List Step) → Rates facts p online Chooses z t m h steps
          → Each (Spares g) steps
      rates-spare t m h steps rates = subst (Each (Spares g)) (sym rates.in_order)
          (each-append (Spares g) (mark_steps z m (mark_for facts p online h z rates.usual t))
          (threshold_steps z t online) (marks-spare m (mark_for facts p online h z rates.usual t))
          (thresholds-spare t online))

      pub marked-spare : (t m : ℕ) (h : History) (steps : List Step)
          → RatesMarked facts p online Chooses z t m h steps → Each (Spares g) steps
      marked-spare t m h steps (unmarked h') = tt
      marked-spare t m h steps (marked t' m' h' ks unlike rates) = rates-spare t' m' h' ks rates

    pub visit-spares : (facts : Facts) (p : ℕ) (online : List CpuId)
        (Rated : ℕ → ℕ → ℕ → History → List Step → Type 0)
        → ((t m : ℕ) (h : History) (steps : List Step) → Rated z t m h steps → Each (Spares g) steps)
        → (t : ℕ) (h : History) (steps : List Step) → Visits facts p online Rated z t h steps
        → Each (Spares g) steps
    visit-spares facts p online Rated rated t h steps visit =
        subst (Each (Spares g)) (sym visit.in_order) (each-append (Spares g) visit.loads visit.further
        (subst (Each (Spares g)) (sym visit.loads_are)
        (each-append (Spares g) (acknowledged_steps z online visit.numbers)
        (LoadM (record { number = z }) visit.mark.mark visit.mark.number ∷ [])
        (acknowledged-spare z online visit.numbers) (tt, tt)))
        (rated t visit.mark.mark (after p visit.loads h) visit.further visit.rated))

  -- and those that set thresholds of nodes
  pub nodes-spare : (first : ℕ) (largest : ℕ → ℕ) (cs : List CpuId) (i : ℕ) (nodes : List ℕ) → suc g ≤ first
      → Each (Spares g) (in_turn (λ i node. threshold_steps (first + i) (largest node) cs) i nodes)
  nodes-spare first largest cs i [] past = tt
  nodes-spare first largest cs i (node ∷ nodes) past =
      each-append (Spares g) (threshold_steps (first + i) (largest node) cs)
      (in_turn (λ i node. threshold_steps (first + i) (largest node) cs) (suc i) nodes)
      (thresholds-spare (first + i) (λ same. omega (arith, same, past)) (largest node) cs)
      (nodes-spare first largest cs (suc i) nodes past)
