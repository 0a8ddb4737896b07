-- A caller that moves something out of the differentials of one CPU alone.
use Rattle.std.proofs.Common.{◌≡◌, ◌≢◌, ℕ, ◌≤◌, Bool, true, false, List, [], ◌∷◌, ◌++◌, ℤ, pos, ◌+ℤ◌, refl, sym, ◌∙◌}
use Rattle.std.proofs.Common.{arith, if◌then◌else◌, nat_eq, ne_eqb, Option, Some, None}
use Rattle.std.proofs.lemmas.Int.{ints}
use Rattle.vms_calls.specs.Common.{CpuId, Shape, after, Step, Put, SetA, Take, History, carried, moved}
use Rattle.vms_calls.proofs.Common.{Each}
use Rattle.vms_near.specs.CallFlight.{most_overstep}
use Rattle.vms_near.specs.InFlight.{carried_from, carries, change_after, changing, moved_from}
use Rattle.vms_near.proofs.Carriers.{carries-some}

-- a step takes differentials of CPU c alone
abbrev pub TakesOf : CpuId → Step → Type 0
TakesOf c (Take d j w) = d.number ≡ c.number
TakesOf c _ = Unit {0}

module _ (part : ℤ → ℕ) (who : Option CpuId) (c : CpuId) (k change over : ℕ) where
  -- a step of a caller that owns `who`: it moves something out of CPU c alone, puts changes that count at most so much
  -- and go at most so far beyond what they have to, and acknowledges nothing
  abbrev pub Kept : Step → Type 0
  Kept (Put l w t delta how) = (who ≡ Some c) × ((part delta ≤ change) × (most_overstep how ≤ over))
  Kept (Take d j w) = d.number ≡ c.number
  Kept (SetA g a) = ⊥
  Kept _ = Unit {0}

  -- so are all its steps since it last carried nothing of the counter
  abbrev pub Keeps : History → Type 0
  Keeps [] = Unit {0}
  Keeps (e ∷ mine) = carries k (e ∷ mine) ≡ true → Kept e.step × Keeps mine

  pub keeps-none : (mine : History) → carries k mine ≡ false → Keeps mine
  keeps-none [] none = tt
  keeps-none (e ∷ mine) none = λ some. let both = rw none at some in absurd cc

  kept-takes : (step : Step) → Kept step → TakesOf c step
  kept-takes (Take d j w) kept = kept
  kept-takes _ kept = tt

  -- steps that take differentials of CPU c alone, of which each is so or leaves nothing carried of the counter; before
  -- them z is carried, and in the end P holds of what is carried
  abbrev pub Goes : (ℤ → Type 0) → ℤ → List Step → Type 0
  Goes P z [] = P z
  Goes P z (step ∷ steps) =
      TakesOf c step × (moved k step +ℤ z ≢ pos 0 → Kept step) × Goes P (moved k step +ℤ z) steps

  pub goes-append : (P Q : ℤ → Type 0) (xs ys : List Step) (z : ℤ) → Goes P z xs
      → ((y : ℤ) → P y → Goes Q y ys) → Goes Q z (xs ++ ys)
  goes-append P Q [] ys z first second = second z first
  goes-append P Q (x ∷ xs) ys z first second =
      (first.0, first.1, goes-append P Q xs ys (moved k x +ℤ z) first.2 second)

  pub goes-each : (steps : List Step) (z : ℤ) → Each Kept steps → Goes (λ y. Unit {0}) z steps
  goes-each [] z each = tt
  goes-each (step ∷ steps) z each =
      (kept-takes step each.0, λ some. each.0, goes-each steps (moved k step +ℤ z) each.1)

  pub goes-first : (P : ℤ → Type 0) (made rest : List Step) (z : ℤ) → Goes P z (made ++ rest)
      → Goes (λ y. Unit {0}) z made
  goes-first P [] rest z goes = tt
  goes-first P (step ∷ made) rest z goes =
      (goes.0, goes.1, goes-first P made rest (moved k step +ℤ z) goes.2)

  pub goes-takes : (P : ℤ → Type 0) (steps : List Step) (z : ℤ) → Goes P z steps → Each (TakesOf c) steps
  goes-takes P [] z goes = tt
  goes-takes P (step ∷ steps) z goes = (goes.0, goes-takes P steps (moved k step +ℤ z) goes.2)

  pub goes-keeps : (p : ℕ) (steps : List Step) (mine : History) → Goes (λ y. Unit {0}) (carried k mine) steps
      → Keeps mine → Keeps (after p steps mine)
  goes-keeps p [] mine goes keeps = keeps
  goes-keeps p (step ∷ steps) mine goes keeps =
      goes-keeps p steps (record { caller = p; step = step } ∷ mine) goes.2
      (λ some. (goes.1 (carries-some k (record { caller = p; step = step } ∷ mine) some), keeps))

  -- from another CPU it carries nothing
  moved-other : (n : ℕ) → c.number ≢ n → (o : Option CpuId) → who ≡ o → (step : Step) → Kept step
      → moved_from o n k step ≡ pos 0
  moved-other n other None is (Put l w t delta how) kept = refl
  moved-other n other (Some o) is (Put l w t delta how) kept =
      let both : Some o ≡ Some c = sym is ∙ kept.0 in
      let same : o ≡ c = cc in
      rw (same, ne_eqb c.number n other) refl
  moved-other n other None is (Take d j w) kept = rw (kept, ne_eqb c.number n other) refl
  moved-other n other (Some o) is (Take d j w) kept = rw (kept, ne_eqb c.number n other) refl
  moved-other n other o is (SetA g a) kept = absurd kept
  moved-other n other None is _ kept = refl
  moved-other n other (Some o) is _ kept = refl

  pub carried-other : (n : ℕ) → c.number ≢ n → (mine : History) → Keeps mine → carried_from who n k mine ≡ pos 0
  carried-other n other [] keeps = refl
  carried-other n other (e ∷ mine) keeps =
      by (carries k (e ∷ mine)) keeps (λ rest. carried-other n other mine rest)
    where
      by : (b : Bool) → (b ≡ true → Kept e.step × Keeps mine) → (Keeps mine → carried_from who n k mine ≡ pos 0)
          → (if b then carried_from who n k mine +ℤ moved_from who n k e.step else pos 0) ≡ pos 0
      by true kept before =
          omega (arith, ints, before (kept refl).1, moved-other n other who refl e.step (kept refl).0)
      by false kept before = refl

  -- and its change counts at most so much
  change-within : (shape : Shape) (step : Step) (before : ℤ) → Kept step → part before ≤ change
      → part (change_after shape k step before) ≤ change
  change-within shape (Put l w t delta how) before kept within = by (nat_eq l.number k)
    where
      by : (b : Bool) → part (if b then delta else before) ≤ change
      by true = kept.1.0
      by false = within
  change-within shape (SetA g a) before kept within = absurd kept
  change-within shape _ before kept within = within

  pub changing-within : (shape : Shape) → part (pos 0) ≡ 0 → (mine : History) → Keeps mine
      → part (changing shape k mine) ≤ change
  changing-within shape none [] keeps = rw none (omega arith)
  changing-within shape none (e ∷ mine) keeps =
      by (carries k (e ∷ mine)) keeps (λ rest. changing-within shape none mine rest)
    where
      by : (b : Bool) → (b ≡ true → Kept e.step × Keeps mine) → (Keeps mine → part (changing shape k mine) ≤ change)
          → part (if b then change_after shape k e.step (changing shape k mine) else pos 0) ≤ change
      by true kept before =
          change-within shape e.step (changing shape k mine) (kept refl).0 (before (kept refl).1)
      by false kept before = rw none (omega arith)
