-- The CPUs that were found online are those that are, and as many.
use Rattle.std.proofs.Common.{◌≡◌, ℕ, suc, ◌+◌, ◌<◌, ◌≤◌, nat_eq, Bool, true, false, if◌then◌else◌, List, [], ◌∷◌}
use Rattle.std.proofs.Common.{length, refl, sym, ap, ◌∙◌, arith, eq-eqb, ⊎_elim}
use Rattle.std.proofs.lemmas.Bool.{cases_eq, ne_eqb}
use Rattle.vms_calls.specs.Common.{CpuState, count_below, is_online, online_from}
use Rattle.vms_drift.specs.RatedMarks.{names}

-- the states are those of CPU c and the next ones
abbrev pub Tell : (ℕ → CpuState) → ℕ → List CpuState → Type 0
Tell state c [] = Unit {0}
Tell state c (x ∷ xs) = (x ≡ state c) × Tell state (suc c) xs

module _ (state : ℕ → CpuState) where
  -- a CPU that stands before all of them isn't named
  names-before : (c : ℕ) (xs : List CpuState) (d : ℕ) → d < c → names (online_from c xs) d ≡ false
  names-before c [] d before = refl
  names-before c (x ∷ xs) d before = by (is_online x) (names-before (suc c) xs d (omega (arith, before)))
    where
      other : nat_eq c d ≡ false
      other = ne_eqb c d (λ same. omega (arith, same, before))

      by : (b : Bool) → names (online_from (suc c) xs) d ≡ false
          → names (if b then record { number = c } ∷ online_from (suc c) xs else online_from (suc c) xs) d ≡ false
      by true rest = rw other rest
      by false rest = rest

  pub names-told : (c : ℕ) (xs : List CpuState) → Tell state c xs → (d : ℕ) → c ≤ d → d < c + length xs
      → names (online_from c xs) d ≡ is_online (state d)
  names-told c [] tell d from to = absurd (omega (arith, from, to))
  names-told c (x ∷ xs) tell d from to = ⊎_elim
      (λ (here : c ≡ d). ap (λ n. names (online_from c (x ∷ xs)) n) (sym here)
      ∙ at (is_online x) (names-before (suc c) xs c (omega arith)) ∙ ap is_online (tell.0 ∙ ap state here))
      (λ (other : c ≡ d → ⊥). later (is_online x) (ne_eqb c d other)
      (names-told (suc c) xs tell.1 d (let past : suc c ≤ d = omega (arith, from, other) in past) (omega (arith, to))))
      (cases_eq c d)
    where
      at : (b : Bool) → names (online_from (suc c) xs) c ≡ false
          → names (if b then record { number = c } ∷ online_from (suc c) xs else online_from (suc c) xs) c ≡ b
      at true none = rw (eq-eqb c c refl) refl
      at false none = none

      later : (b : Bool) → nat_eq c d ≡ false → names (online_from (suc c) xs) d ≡ is_online (state d)
          → names (if b then record { number = c } ∷ online_from (suc c) xs else online_from (suc c) xs) d
          ≡ is_online (state d)
      later true other rest = rw other rest
      later false other rest = rest

  abbrev pub one_online : ℕ → ℕ
  one_online c = if is_online (state c) then 1 else 0

  pub length-told : (c : ℕ) (xs : List CpuState) → Tell state c xs
      → length (online_from c xs) + count_below one_online c ≡ count_below one_online (c + length xs)
  length-told c [] tell =
      let same : count_below one_online c ≡ count_below one_online (c + 0) =
      ap (count_below one_online) (let none : c ≡ c + 0 = omega arith in none) in
      omega (arith, same)
  length-told c (x ∷ xs) tell =
      let rest = length-told (suc c) xs tell.1 in
      let same : suc c + length xs ≡ c + suc (length xs) = omega arith in
      by (is_online x) (ap is_online tell.0) (rest ∙ ap (count_below one_online) same)
    where
      by : (b : Bool) → b ≡ is_online (state c)
          → length (online_from (suc c) xs) + count_below one_online (suc c)
          ≡ count_below one_online (c + suc (length xs))
          → length (if b then record { number = c } ∷ online_from (suc c) xs else online_from (suc c) xs)
          + count_below one_online c ≡ count_below one_online (c + suc (length xs))
      by true is rest =
          let one : one_online c ≡ 1 = rw (sym is) refl in
          omega (arith, one, rest)
      by false is rest =
          let none : one_online c ≡ 0 = rw (sym is) refl in
          omega (arith, none, rest)
