-- A global value is off by no more than the differentials and what is carried.
use Rattle.std.proofs.Common.{ℕ, zero, suc, ◌≤◌, ℤ, pos, negsuc, ◌+ℤ◌, ◌≤ℤ◌, unsigned_abs, arith, if◌then◌else◌, nat_eq}
use Rattle.std.proofs.lemmas.Int.{ints}
use Rattle.vms_history.specs.Common.{IsCounter, item_of, counter_count, own, begun_in, count_below, sum_below}
use Rattle.vms_core.specs.declared.steps.Facts.{Facts}
use Rattle.vms_core.specs.Common.{diff_at, BoundsDrift, BoundsSystemDrift, BoundsExcess, size_below_zero}
use Rattle.vms_core.specs.Common.{last_thresholds, last_thresholds_of_item, carried_sizes, carried_of_item_sizes}
use Rattle.vms_core.specs.Common.{carried, carried_of_item, History, IsLegal, state_after, carried_by_all}
use Rattle.vms_core.specs.Common.{carried_of_item_by_all, role, differentials, differentials_of_item, last_threshold}
use Rattle.vms_core.proofs.Bounds.{within-if, diff_at-bounded}
use Rattle.vms_history.proofs.Common.{sum_below-sizes}
use Rattle.vms_core.proofs.Items.{system_totals-kept}
use Rattle.vms_core.proofs.Sums.{totals-kept}

-- integers add up to at least minus the sizes of those below 0
negative_least : (f : ℕ → ℤ) (n : ℕ) → pos 0 ≤ℤ (sum_below f n +ℤ pos (count_below (λ i. size_below_zero (f i)) n))
negative_least f zero = omega (arith, ints)
negative_least f (suc n) = omega (arith, ints, one (f n), negative_least f n)
  where
    one : (z : ℤ) → pos 0 ≤ℤ (z +ℤ pos (size_below_zero z))
    one (pos m) = omega (arith, ints)
    one (negsuc m) = omega (arith, ints)

module _ (facts : Facts) (h : History) (legal : IsLegal facts h) where
  differentials-bounded : (k : ℕ) → IsCounter facts.layout k
      → unsigned_abs (differentials facts.layout (state_after facts h) k) ≤ last_thresholds facts h k
  differentials-bounded k k_in =
      sum_below-sizes (λ c. diff_at (state_after facts h) c k) (λ c. last_threshold facts h c k) facts.layout.cpus
      (λ c c_in. diff_at-bounded facts h legal c k c_in k_in)

  differentials_of_item-bounded : (i : ℕ)
      → unsigned_abs (differentials_of_item facts.layout (state_after facts h) i) ≤ last_thresholds_of_item facts h i
  differentials_of_item-bounded i =
      sum_below-sizes (λ k. if nat_eq (item_of facts.layout k) i then differentials facts.layout
      (state_after facts h) k else pos 0)
      (λ k. if nat_eq (item_of facts.layout k) i then last_thresholds facts h k else 0) (counter_count facts.layout)
      (λ k k_in. within-if (nat_eq (item_of facts.layout k) i) (differentials facts.layout (state_after facts h) k)
      (pos 0)
      (last_thresholds facts h k) 0 (differentials-bounded k k_in) (omega arith))

  pub drift-bounded : BoundsDrift facts h
  drift-bounded k k_in =
      let carried_within : unsigned_abs (carried_by_all h k) ≤ carried_sizes h k =
      sum_below-sizes (λ p. carried k (own h p)) (λ p. unsigned_abs (carried k (own h p))) (suc (begun_in role h))
      (λ p below. omega arith) in
      omega (arith, ints, totals-kept facts h legal k k_in, differentials-bounded k k_in, carried_within)

  pub system_drift-bounded : BoundsSystemDrift facts h
  system_drift-bounded i i_in =
      let shape = facts.layout in
      let carried_within : unsigned_abs (carried_of_item_by_all shape h i) ≤ carried_of_item_sizes shape h i =
      sum_below-sizes (λ p. carried_of_item shape i (own h p))
      (λ p. unsigned_abs (carried_of_item shape i (own h p))) (suc (begun_in role h))
      (λ p below. omega arith) in
      omega (arith, ints, system_totals-kept facts h legal i i_in, differentials_of_item-bounded i, carried_within)

  -- what the callers carry together is at least minus the sizes of the negative amounts
  pub excess-bounded : BoundsExcess facts h
  excess-bounded k k_in =
      let least = negative_least (λ p. carried k (own h p)) (suc (begun_in role h)) in
      omega (arith, ints, totals-kept facts h legal k k_in, least)
