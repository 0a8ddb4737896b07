-- Sums over the pairs of two lists.
use Rattle.std.proofs.Common.{◌≡◌, ℕ, ◌+◌, ◌<◌, ◌≤◌, List, length, take, get_or, arith, ◌∙◌, ap}
use Rattle.std.specs.Prelude.{sum_by, min}
use Rattle.std.specs.List.{zip}
use Rattle.std.proofs.lemmas.List.{take_all}
use Rattle.std.proofs.lemmas.List.Sums.{sum_by_more}
use Rattle.std.proofs.lemmas.Slice.Zip.{get_or-zip, length-zip}

module _ {A B : Type 0} (f : A × B → ℕ) (xs : List A) (ys : List B) where
  -- one pair more adds its term
  pub sum_by-take-zip_more : (i : ℕ) (x : A) (y : B) → i < length xs → i < length ys →
      sum_by f (take (i + 1) (zip xs ys)) ≡ sum_by f (take i (zip xs ys)) + f (get_or xs i x, get_or ys i y)
  sum_by-take-zip_more i x y in_xs in_ys =
      sum_by_more f (zip xs ys) i (x, y) (omega (arith, length-zip xs ys))
      ∙ ap (λ pair. sum_by f (take i (zip xs ys)) + f pair) (get_or-zip xs ys i (x, y) in_xs in_ys)

  -- these are all pairs, where one of the lists has no more
  pub sum_by-take-zip_all : (i : ℕ) → min (length xs) (length ys) ≤ i →
      sum_by f (take i (zip xs ys)) ≡ sum_by f (zip xs ys)
  sum_by-take-zip_all i past = ap (sum_by f) (take_all i (zip xs ys) (omega (arith, length-zip xs ys)))
