-- Sums over the numbers below a bound.
use Rattle.std.specs.Prelude.{ℕ, suc, zero, ◌+◌, max, ℤ, pos, ◌+ℤ◌}

-- f 0 + f 1 + .. + f (n - 1)
abbrev pub sum_below : (ℕ → ℤ) → ℕ → ℤ
sum_below f zero = pos 0
sum_below f (suc n) = f n +ℤ sum_below f n

-- the same of natural numbers
abbrev pub count_below : (ℕ → ℕ) → ℕ → ℕ
count_below f zero = 0
count_below f (suc n) = f n + count_below f n

-- the largest of f 0 to f (n - 1), or 0
abbrev pub largest_below : (ℕ → ℕ) → ℕ → ℕ
largest_below f zero = 0
largest_below f (suc n) = max (f n) (largest_below f n)
