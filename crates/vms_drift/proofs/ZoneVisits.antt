-- Among visits of zones, of which each is visited once, the visit of one zone: the others spare it.
use Rattle.std.proofs.Common.{◌≡◌, ◌≢◌, ℕ, suc, zero, ◌+◌, ◌<◌, ◌≤◌, nat_eq, Bool, true, false, if◌then◌else◌, List, []}
use Rattle.std.proofs.Common.{◌∷◌, ◌++◌, refl, sym, ap, ◌∙◌, subst, arith, eq-eqb, ⊎_elim, append_assoc}
use Rattle.std.specs.Prelude.{filter}
use Rattle.std.proofs.lemmas.Bool.{cases_eq, ne_eqb}
use Rattle.vms_calls.specs.Common.{CpuId, Facts, History, Step, Visits, VisitsEach, after, next, none, numbers_below}
use Rattle.vms_calls.proofs.Common.{Each, each-append}
use Rattle.vms_drift.proofs.SparedZones.{Spares, visit-spares}
use Rattle.vms_history.proofs.Common.{after-steps}

-- how often a list names zone g
abbrev pub times : ℕ → List ℕ → ℕ
times g [] = 0
times g (z ∷ zs) = (if nat_eq z g then 1 else 0) + times g zs

module _ (g : ℕ) where
  times-append : (xs ys : List ℕ) → times g (xs ++ ys) ≡ times g xs + times g ys
  times-append [] ys = omega arith
  times-append (x ∷ xs) ys = omega (arith, times-append xs ys)

  times-past : (n : ℕ) → n ≤ g → times g (numbers_below n) ≡ 0
  times-past zero past = refl
  times-past (suc n) past =
      let other : nat_eq n g ≡ false = ne_eqb n g (λ same. omega (arith, same, past)) in
      times-append (numbers_below n) (n ∷ []) ∙ rw other (omega (arith, times-past n (omega (arith, past))))

  pub times-below : (n : ℕ) → g < n → times g (numbers_below n) ≡ 1
  times-below zero below = absurd (omega (arith, below))
  times-below (suc n) below = times-append (numbers_below n) (n ∷ []) ∙ ⊎_elim
      (λ (here : n ≡ g). rw (eq-eqb n g here) (omega (arith, times-past n (omega (arith, here)))))
      (λ (other : n ≡ g → ⊥).
      rw (ne_eqb n g other) (omega (arith, times-below n (omega (arith, below, other)))))
      (cases_eq n g)

  pub times-filter : (f : ℕ → Bool) → f g ≡ true → (zs : List ℕ) → times g (filter f zs) ≡ times g zs
  times-filter f on [] = refl
  times-filter f on (z ∷ zs) = ⊎_elim
      (λ (here : z ≡ g). by (f z) (ap f here ∙ on) (times-filter f on zs))
      (λ (other : z ≡ g → ⊥).
      let none : times g (z ∷ zs) ≡ times g zs = rw (ne_eqb z g other) (omega arith) in
      either (f z) (ne_eqb z g other) (times-filter f on zs) ∙ sym none)
      (cases_eq z g)
    where
      by : (b : Bool) → b ≡ true → times g (filter f zs) ≡ times g zs
          → times g (if b then z ∷ filter f zs else filter f zs) ≡ (if nat_eq z g then 1 else 0) + times g zs
      by true is rest = ap (λ n. (if nat_eq z g then 1 else 0) + n) rest
      by false is rest = absurd cc

      either : (b : Bool) → nat_eq z g ≡ false → times g (filter f zs) ≡ times g zs
          → times g (if b then z ∷ filter f zs else filter f zs) ≡ times g zs
      either true is rest = rw is (omega (arith, rest))
      either false is rest = rest

module _ (facts : Facts) (p : ℕ) (online : List CpuId) (Rated : ℕ → ℕ → ℕ → History → List Step → Type 0) (g : ℕ)
    (rated : (z : ℕ) → z ≢ g → (t m : ℕ) (h : History) (steps : List Step) → Rated z t m h steps
    → Each (Spares g) steps) where
  -- the visit of zone g, and what comes before and after it
  pub record VisitOf (h : History) (steps : List Step) : Type 0 where
    pub before : List Step
    pub first : List Step
    pub rest : List Step
    pub t : ℕ
    pub visit : Visits facts p online Rated g t (after p before h) first
    pub whole : steps ≡ before ++ (first ++ rest)
    pub spared_before : Each (Spares g) before
    pub spared_rest : Each (Spares g) rest

  others : (z : ℕ) (gs : List ℕ) (n : ℕ) → z ≢ g → times g (z ∷ gs) ≡ n → times g gs ≡ n
  others z gs n other is = let rest = rw (ne_eqb z g other) at is in omega (arith, rest)

  visits-spare : (gs ts : List ℕ) (h : History) (steps : List Step) → VisitsEach facts p online Rated gs ts h steps
      → times g gs ≡ 0 → Each (Spares g) steps
  visits-spare gs ts h steps (none h') never = tt
  visits-spare gs ts h steps (next z t gs' ts' h' first more visit visits) never = ⊎_elim
      (λ (here : z ≡ g). absurd (let one = rw (eq-eqb z g here) at never in omega (arith, one)))
      (λ (other : z ≡ g → ⊥).
      each-append (Spares g) first more
      (visit-spares g z other facts p online Rated (rated z other) t h' first visit)
      (visits-spare gs' ts' (after p first h') more visits (others z gs' 0 other never)))
      (cases_eq z g)

  pub visit-of : (gs ts : List ℕ) (h : History) (steps : List Step) → VisitsEach facts p online Rated gs ts h steps
      → times g gs ≡ 1 → VisitOf h steps
  visit-of gs ts h steps (none h') once = absurd (omega (arith, once))
  visit-of gs ts h steps (next z t gs' ts' h' first more visit visits) once = ⊎_elim
      (λ (here : z ≡ g).
      let one = rw (eq-eqb z g here) at once in
      record {
        before = [];
        first = first;
        rest = more;
        t = t;
        visit = subst (λ (n : ℕ). Visits facts p online Rated n t h' first) here visit;
        whole = refl;
        spared_before = tt;
        spared_rest = visits-spare gs' ts' (after p first h') more visits (omega (arith, one));
      })
      (λ (other : z ≡ g → ⊥).
      let inner = visit-of gs' ts' (after p first h') more visits (others z gs' 1 other once) in
      record {
        before = first ++ inner.before;
        first = inner.first;
        rest = inner.rest;
        t = inner.t;
        visit = subst (λ (past : History). Visits facts p online Rated g inner.t past inner.first)
            (sym (after-steps p first inner.before h')) inner.visit;
        whole = ap (λ ks. first ++ ks) inner.whole ∙ sym (append_assoc first inner.before (inner.first ++ inner.rest));
        spared_before = each-append (Spares g) first inner.before
            (visit-spares g z other facts p online Rated (rated z other) t h' first visit) inner.spared_before;
        spared_rest = inner.spared_rest;
      })
      (cases_eq z g)
