-- For other crates too: sums of the items that stay small.
use Rattle.std.proofs.Common.{◌≡◌, ℕ, ◌≤◌, ℤ, pos, List, unsigned_abs, subst, sym, arith}
use Rattle.std.specs.Prelude.{replicate}
use Rattle.vms_plain_pages.specs.Common.{AreSums, sum_at}
use Rattle.vms_core.proofs.Common.{get_or-copies}

pub AreSums-more : (most more : ℕ) (sums : List ℤ) → most ≤ more → AreSums most sums → AreSums more sums
AreSums-more most more sums up small = record { each = λ i. let few = small.each i in omega arith }

-- the sums that a fold begins with
abbrev pub no_sums : List ℤ
no_sums = replicate 32 (pos 0)

pub sum_at-zeros : (n i : ℕ) → sum_at (replicate n (pos 0)) i ≡ pos 0
sum_at-zeros n i = get_or-copies n i (pos 0)

pub AreSums-zeros : (n : ℕ) → AreSums 0 (replicate n (pos 0))
AreSums-zeros n = record {
  each = λ i. subst (λ z. unsigned_abs z ≤ 0) (sym (sum_at-zeros n i)) (omega arith);
}
