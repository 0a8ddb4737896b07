-- For other crates too: sums of natural numbers below a bound, beside sums of integers, and the largest of such
-- numbers.
use Rattle.std.proofs.Common.{◌≡◌, ℕ, zero, suc, ◌+◌, ◌*◌, ◌<◌, ◌≤◌, ℤ, pos, unsigned_abs, refl, ap, arith, ⊎_elim}
use Rattle.std.proofs.lemmas.Bool.{cases_eq}
use Rattle.std.proofs.lemmas.Int.{ints}
use Rattle.vms_history.specs.Common.{sum_below, count_below, largest_below}
use Rattle.vms_history.proofs.SumBounds.{sum_below-le, sum_below-size}

pub pos-count_below : (g : ℕ → ℕ) (n : ℕ) → pos (count_below g n) ≡ sum_below (λ k. pos (g k)) n
pos-count_below g zero = refl
pos-count_below g (suc n) = omega (arith, ints, pos-count_below g n)

-- the size of a sum is at most the sum of bounds of the sizes
pub sum_below-sizes : (f : ℕ → ℤ) (g : ℕ → ℕ) (n : ℕ) → ((k : ℕ) → k < n → unsigned_abs (f k) ≤ g k)
    → unsigned_abs (sum_below f n) ≤ count_below g n
sum_below-sizes f g n within =
    let each = sum_below-le (λ k. pos (unsigned_abs (f k))) (λ k. pos (g k)) n
    (λ k below. let small = within k below in omega (arith, ints)) in
    omega (arith, ints, sum_below-size f n, each, pos-count_below g n)

pub count_below-same : (f g : ℕ → ℕ) (n : ℕ) → ((k : ℕ) → k < n → f k ≡ g k) → count_below f n ≡ count_below g n
count_below-same f g zero same = refl
count_below-same f g (suc n) same =
    omega (arith, same n (omega arith), count_below-same f g n (λ k below. same k (omega arith)))

-- each is at most the largest
pub largest_below-least : (f : ℕ → ℕ) (n i : ℕ) → i < n → f i ≤ largest_below f n
largest_below-least f zero i below = absurd (omega arith)
largest_below-least f (suc n) i below = ⊎_elim
    (λ (same : i ≡ n). let last : f i ≡ f n = ap f same in omega arith)
    (λ (other : i ≡ n → ⊥). omega (arith, largest_below-least f n i (omega arith)))
    (cases_eq i n)

-- and the largest is at most a bound of each
pub largest_below-most : (f : ℕ → ℕ) (n most : ℕ) → ((i : ℕ) → i < n → f i ≤ most) → largest_below f n ≤ most
largest_below-most f zero most each = omega arith
largest_below-most f (suc n) most each =
    omega (arith, each n (omega arith), largest_below-most f n most (λ i below. each i (omega arith)))

-- a sum of smaller numbers is smaller
pub count_below-least : (f g : ℕ → ℕ) (n : ℕ) → ((i : ℕ) → i < n → f i ≤ g i) → count_below f n ≤ count_below g n
count_below-least f g zero each = omega arith
count_below-least f g (suc n) each =
    omega (arith, each n (omega arith), count_below-least f g n (λ i below. each i (omega arith)))

-- sums add up
pub count_below-sum : (f g : ℕ → ℕ) (n : ℕ) → count_below (λ i. f i + g i) n ≡ count_below f n + count_below g n
count_below-sum f g zero = refl
count_below-sum f g (suc n) = omega (arith, count_below-sum f g n)

-- n numbers of at most `most` each
pub count_below-most : (f : ℕ → ℕ) (n most : ℕ) → ((i : ℕ) → i < n → f i ≤ most) → count_below f n ≤ n * most
count_below-most f zero most within = omega arith
count_below-most f (suc n) most within =
    let more : suc n * most ≡ n * most + most = omega arith in
    omega (arith, more, within n (omega arith), count_below-most f n most (λ i below. within i (omega arith)))
