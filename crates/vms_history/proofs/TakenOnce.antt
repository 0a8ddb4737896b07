-- For other crates too: what takes make of a number: all of it is taken at once, or nothing.
use Rattle.std.proofs.Common.{◌≡◌, ◌≢◌, ℕ, suc, ◌<◌, ◌≤◌, ◌⊎◌, inl, inr, ℤ, pos, ◌+ℤ◌, refl, arith}
use Rattle.std.proofs.lemmas.Int.{ints}
use Rattle.std.proofs.lemmas.Bool.{cases_lt}

-- what is left of a number and what was taken of it are what it was, and at most one take found something, after which
-- nothing is left
pub record TakenOnce (was left taken : ℤ) (takings : ℕ) : Type 0 where
  pub total : left +ℤ taken ≡ was
  pub once : takings ≤ 1
  pub all : 0 < takings → left ≡ pos 0

pub TakenOnce-none : (was : ℤ) → TakenOnce was was (pos 0) 0
TakenOnce-none was = record { total = omega (arith, ints); once = omega arith; all = λ some. absurd (omega arith) }

module _ (was left taken : ℤ) (takings : ℕ) (before : TakenOnce was left taken takings) where
  -- a step that takes nothing of it and leaves it
  pub TakenOnce-left : TakenOnce was left (pos 0 +ℤ taken) takings
  TakenOnce-left = record { total = omega (arith, ints, before.total); once = before.once; all = before.all }

  -- a take finds all that is left: it counts if that is something
  pub TakenOnce-taken : (count : ℕ) → ((left ≡ pos 0) × (count ≡ takings)) ⊎ ((left ≢ pos 0) × (count ≡ suc takings))
      → TakenOnce was (pos 0) (left +ℤ taken) count
  TakenOnce-taken count (inl none) = record {
    total = omega (arith, ints, before.total);
    once = omega (arith, none.1, before.once);
    all = λ some. refl;
  }
  TakenOnce-taken count (inr found) = record {
    total = omega (arith, ints, before.total);
    once = elim (cases_lt 0 takings) [
      | inl earlier ↦ absurd (found.0 (before.all earlier))
      | inr first ↦ omega (arith, found.1)
    ];
    all = λ some. refl;
  }
