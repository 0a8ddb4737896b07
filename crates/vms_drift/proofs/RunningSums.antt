-- What a pass carries while it makes steps one after another.
use Rattle.std.proofs.Common.{◌≡◌, ℕ, ◌≤◌, ℤ, pos, ◌+ℤ◌, List, [], ◌∷◌, ◌++◌, refl, subst, arith, unsigned_abs, get_or}
use Rattle.std.proofs.lemmas.Int.{ints}
use Rattle.vms_calls.specs.Common.{History, Put, Step, Take, after, most_threshold}
use Rattle.vms_history.specs.Events.{total}
use Rattle.vms_calls.proofs.Common.{Each}

-- a step finds differentials, and goes by a threshold, of at most 125 pages
abbrev pub IsSmall : Step → Type 0
IsSmall (Put k w t delta how) =
    ((n : ℕ) → unsigned_abs (get_or w.values n (pos 0)) ≤ most_threshold) × (t ≤ most_threshold)
IsSmall (Take c j w) = (n : ℕ) → unsigned_abs (get_or w.values n (pos 0)) ≤ most_threshold
IsSmall _ = Unit {0}

abbrev pub sum_steps : (Step → ℤ) → List Step → ℤ
sum_steps m [] = pos 0
sum_steps m (step ∷ steps) = m step +ℤ sum_steps m steps

pub total-after : (m : Step → ℤ) (p : ℕ) (steps : List Step) (h : History)
    → total m (after p steps h) ≡ sum_steps m steps +ℤ total m h
total-after m p [] h = omega (arith, ints)
total-after m p (step ∷ steps) h =
    omega (arith, ints, total-after m p steps (record { caller = p; step = step } ∷ h))

pub sum-append : (m : Step → ℤ) (xs ys : List Step) → sum_steps m (xs ++ ys) ≡ sum_steps m xs +ℤ sum_steps m ys
sum-append m [] ys = omega (arith, ints)
sum-append m (x ∷ xs) ys = omega (arith, ints, sum-append m xs ys)

pub sum-quiet : (m : Step → ℤ) (xs : List Step) → Each (λ step. m step ≡ pos 0) xs → sum_steps m xs ≡ pos 0
sum-quiet m [] quiet = refl
sum-quiet m (x ∷ xs) quiet = let none = quiet.0 in omega (arith, ints, none, sum-quiet m xs quiet.1)

-- from z on the sum of a measure stays within a bound, and a fact holds of it in the end
module _ (m : Step → ℤ) (most : ℕ) where
  abbrev pub Runs : (ℤ → Type 0) → ℤ → List Step → Type 0
  Runs P z [] = (unsigned_abs z ≤ most) × P z
  Runs P z (step ∷ steps) = (unsigned_abs z ≤ most) × (IsSmall step → Runs P (z +ℤ m step) steps)

  pub runs-append : (P Q : ℤ → Type 0) (xs ys : List Step) (z : ℤ) → Runs P z xs
      → ((y : ℤ) → unsigned_abs y ≤ most → P y → Runs Q y ys) → Runs Q z (xs ++ ys)
  runs-append P Q [] ys z first second = second z first.0 first.1
  runs-append P Q (x ∷ xs) ys z first second =
      (first.0, λ small. runs-append P Q xs ys (z +ℤ m x) (first.1 small) second)

  pub runs-weaker : (P Q : ℤ → Type 0) (xs : List Step) (z : ℤ) → ((y : ℤ) → P y → Q y) → Runs P z xs → Runs Q z xs
  runs-weaker P Q [] z weaker runs = (runs.0, weaker z runs.1)
  runs-weaker P Q (x ∷ xs) z weaker runs =
      (runs.0, λ small. runs-weaker P Q xs (z +ℤ m x) weaker (runs.1 small))

  -- in the end it is the sum of all
  pub runs-sum : (P : ℤ → Type 0) (xs : List Step) (z : ℤ) → Runs P z xs
      → Runs (λ y. P y × (y ≡ z +ℤ sum_steps m xs)) z xs
  runs-sum P [] z runs = (runs.0, (runs.1, omega (arith, ints)))
  runs-sum P (x ∷ xs) z runs = (
    runs.0,
    λ small. runs-weaker (λ y. P y × (y ≡ (z +ℤ m x) +ℤ sum_steps m xs)) (λ y. P y × (y ≡ z +ℤ sum_steps m (x ∷ xs)))
        xs (z +ℤ m x) (λ y held. let is = held.1 in (held.0, omega (arith, ints, is)))
        (runs-sum P xs (z +ℤ m x) (runs.1 small)),
  )

  -- steps that the measure doesn't count
  pub runs-quiet : (P : ℤ → Type 0) (xs : List Step) (z : ℤ) → Each (λ step. m step ≡ pos 0) xs
      → unsigned_abs z ≤ most → P z → Runs P z xs
  runs-quiet P [] z quiet within holds = (within, holds)
  runs-quiet P (x ∷ xs) z quiet within holds = (
    within,
    λ small. let none = quiet.0 in
        let same : z ≡ z +ℤ m x = omega (arith, ints, none) in
        subst (λ y. Runs P y xs) same (runs-quiet P xs z quiet.1 within holds),
  )

  runs-now : (P : ℤ → Type 0) (xs : List Step) (z : ℤ) → Runs P z xs → unsigned_abs z ≤ most
  runs-now P [] z runs = runs.0
  runs-now P (x ∷ xs) z runs = runs.0

  -- after the first of the steps it is within the bound
  pub runs-prefix : (P : ℤ → Type 0) (made rest : List Step) (z : ℤ) → Runs P z (made ++ rest) → Each IsSmall made
      → unsigned_abs (z +ℤ sum_steps m made) ≤ most
  runs-prefix P [] rest z runs small = let now = runs-now P rest z runs in omega (arith, ints, now)
  runs-prefix P (x ∷ made) rest z runs small =
      let later = runs-prefix P made rest (z +ℤ m x) (runs.1 small.0) small.1 in omega (arith, ints, later)
