-- Sums over CPUs: one CPU more, and no overflow on the way.
use Rattle.std.proofs.Common.{◌≡◌, ℕ, zero, suc, ◌+◌, ◌*◌, ◌^◌, ◌<◌, ◌≤◌, ℤ, pos, ◌+ℤ◌, ◌≤ℤ◌, unsigned_abs, FitsSigned}
use Rattle.std.proofs.Common.{w64, to_z, of_z, inl, inr, ap, subst, sym, ◌∙◌, arith}
use Rattle.std.proofs.lemmas.Bool.{cases_lt}
use Rattle.std.proofs.lemmas.Int.{ints, to_z-of_z}
use Rattle.vms_world.specs.Common.{sum_below}

-- the number d of CPU n is added to the sum t of those of the CPUs before it and of v
module _ (t d v : ℤ) (f : ℕ → ℤ) (n : ℕ) (so_far : t ≡ v +ℤ sum_below f n) (more : d ≡ f n)
    (small : unsigned_abs t ≤ 2 ^ 60 + n * 2 ^ 16) (few : unsigned_abs d ≤ 2 ^ 16) (below : n < 128) where
  pub fits : FitsSigned w64 (t +ℤ d)
  fits = omega (arith, ints)

  pub whole : to_z w64 (of_z w64 (t +ℤ to_z w64 (of_z w64 d))) ≡ t +ℤ d
  whole =
      let one : FitsSigned w64 d = omega (arith, ints) in
      ap (λ x. to_z w64 (of_z w64 (t +ℤ x))) (to_z-of_z w64 d one) ∙ to_z-of_z w64 (t +ℤ d) fits

  pub added-total : to_z w64 (of_z w64 (t +ℤ to_z w64 (of_z w64 d))) ≡ v +ℤ sum_below f (n + 1)
  added-total =
      let next : suc n ≡ n + 1 = omega arith in
      whole ∙ subst (λ (m : ℕ). t +ℤ d ≡ v +ℤ sum_below f m) next (omega (arith, ints))

  pub added-bound : unsigned_abs (to_z w64 (of_z w64 (t +ℤ to_z w64 (of_z w64 d)))) ≤ 2 ^ 60 + (n + 1) * 2 ^ 16
  added-bound = subst (λ (z : ℤ). unsigned_abs z ≤ 2 ^ 60 + (n + 1) * 2 ^ 16) (sym whole) (omega (arith, ints))

-- the words of the CPUs up to n are some of all words
pub words-within : (f : ℕ → ℕ) (n m : ℕ) → n < m
    → (pos (f n) +ℤ sum_below (λ c. pos (f c)) n) ≤ℤ sum_below (λ c. pos (f c)) m
words-within f n zero below = absurd (omega arith)
words-within f n (suc m) below = elim (cases_lt n m) [
  | inl less ↦ omega (arith, ints, words-within f n m less)
  | inr last ↦
      let is : n ≡ m = omega arith in
      let word : f n ≡ f m = ap f is in
      let words : sum_below (λ c. pos (f c)) n ≡ sum_below (λ c. pos (f c)) m =
      ap (λ (i : ℕ). sum_below (λ c. pos (f c)) i) is in
      omega (arith, ints, word, words)
]
