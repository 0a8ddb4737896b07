-- For other crates too: how large sums over the numbers below a bound are.
use Rattle.std.proofs.Common.{◌≡◌, ℕ, zero, suc, ◌+◌, ◌*◌, ◌<◌, ℤ, pos, ◌≤ℤ◌, unsigned_abs, inl, inr, ap, arith}
use Rattle.std.proofs.lemmas.Int.{ints}
use Rattle.std.proofs.lemmas.Bool.{cases_lt}
use Rattle.vms_history.specs.Common.{sum_below}

pub sum_below-le : (f g : ℕ → ℤ) (n : ℕ) → ((k : ℕ) → k < n → f k ≤ℤ g k) → sum_below f n ≤ℤ sum_below g n
sum_below-le f g zero less = omega (arith, ints)
sum_below-le f g (suc n) less =
    omega (arith, ints, less n (omega arith), sum_below-le f g n (λ k below. less k (omega arith)))

pub sum_below-not_negative : (f : ℕ → ℤ) (n : ℕ) → ((k : ℕ) → k < n → pos 0 ≤ℤ f k) → pos 0 ≤ℤ sum_below f n
sum_below-not_negative f zero least = omega (arith, ints)
sum_below-not_negative f (suc n) least =
    omega (arith, ints, least n (omega arith), sum_below-not_negative f n (λ k below. least k (omega arith)))

-- each is at most the sum, where none is negative
pub sum_below-each : (f : ℕ → ℤ) (i n : ℕ) → i < n → ((k : ℕ) → k < n → pos 0 ≤ℤ f k) → f i ≤ℤ sum_below f n
sum_below-each f i zero below least = absurd (omega arith)
sum_below-each f i (suc n) below least = elim (cases_lt i n) [
  | inl less ↦
      omega (arith, ints, least n (omega arith), sum_below-each f i n less (λ k k_below. least k (omega arith)))
  | inr last ↦
      let is : i ≡ n = omega arith in
      let here : f i ≡ f n = ap f is in
      omega (arith, ints, here, sum_below-not_negative f n (λ k k_below. least k (omega arith)))
]

-- n values of at most `most` each
pub sum_below-most : (f : ℕ → ℤ) (n most : ℕ) → ((k : ℕ) → k < n → f k ≤ℤ pos most) → sum_below f n ≤ℤ pos (n * most)
sum_below-most f zero most within = omega (arith, ints)
sum_below-most f (suc n) most within =
    let more : suc n * most ≡ most + n * most = omega arith in
    omega (arith, ints, more, within n (omega arith), sum_below-most f n most (λ k below. within k (omega arith)))

-- the size of a sum is at most the sum of the sizes
pub sum_below-size : (f : ℕ → ℤ) (n : ℕ)
    → pos (unsigned_abs (sum_below f n)) ≤ℤ sum_below (λ k. pos (unsigned_abs (f k))) n
sum_below-size f zero = omega (arith, ints)
sum_below-size f (suc n) = omega (arith, ints, sum_below-size f n)
