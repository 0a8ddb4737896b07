-- Sides of numbers, and what a sum counts on one side where one of its numbers at most goes with an amount beside it.
use Rattle.std.proofs.Common.{◌≡◌, ◌≢◌, ℕ, zero, suc, ◌+◌, ◌<◌, Bool, true, false, ℤ, pos, negsuc, neg_ℤ, ◌+ℤ◌, ◌-ℤ◌}
use Rattle.std.proofs.Common.{◌≤ℤ◌, inl, inr, refl, sym, arith, subst, nat_eq, eq-eqb, eqb-true, ne_eqb, if◌then◌else◌}
use Rattle.std.proofs.Common.{unsigned_abs, ◌≤◌}
use Rattle.std.proofs.lemmas.Bool.{eqb-false}
use Rattle.std.proofs.lemmas.Int.{ints}
use Rattle.vms_calls.specs.Common.{count_below, sum_below, at_least_zero}
use Rattle.vms_history.proofs.Common.{pos-count_below, sum_below-changed, sum_below-le, zero_or_not}
use Rattle.vms_core.specs.Drift.{size_below_zero}
use Rattle.vms_near.proofs.Sums.{all_or_one}

-- one side of a number: the number itself or its opposite, and how much of it counts there at most
pub record IsSide (side : ℤ → ℤ) (part : ℤ → ℕ) : Type 0 where
  pub sums : (x y : ℤ) → side (x +ℤ y) ≡ side x +ℤ side y
  pub sizes : (x : ℤ) → side x ≤ℤ pos (unsigned_abs x)
  pub parts : (x : ℤ) → side x ≤ℤ pos (part x)

pub above : IsSide (λ z. z) at_least_zero
above = record {
  sums = λ x y. refl;
  sizes = λ x. omega (arith, ints);
  parts = by;
}
  where
    by : (x : ℤ) → x ≤ℤ pos (at_least_zero x)
    by (pos n) = omega (arith, ints)
    by (negsuc n) = omega (arith, ints)

pub below : IsSide neg_ℤ size_below_zero
below = record {
  sums = λ x y. omega (arith, ints);
  sizes = λ x. omega (arith, ints);
  parts = by;
}
  where
    by : (x : ℤ) → neg_ℤ x ≤ℤ pos (size_below_zero x)
    by (pos n) = omega (arith, ints)
    by (negsuc n) = omega (arith, ints)

pub sized : IsSide (λ z. z) unsigned_abs
sized = record { sums = λ x y. refl; sizes = λ x. omega (arith, ints); parts = λ x. omega (arith, ints) }

pub turned : IsSide neg_ℤ unsigned_abs
turned = record {
  sums = λ x y. omega (arith, ints);
  sizes = λ x. omega (arith, ints);
  parts = λ x. omega (arith, ints);
}

module _ (side : ℤ → ℤ) (part : ℤ → ℕ) (is_side : IsSide side part) where
  pub side-zero : side (pos 0) ≡ pos 0
  side-zero = let twice = is_side.sums (pos 0) (pos 0) in omega (arith, ints, twice)

  pub side-sum : (f : ℕ → ℤ) (n : ℕ) → side (sum_below f n) ≡ sum_below (λ i. side (f i)) n
  side-sum f zero = side-zero
  side-sum f (suc n) = omega (arith, ints, is_side.sums (f n) (sum_below f n), side-sum f n)

  -- n numbers beside an amount: one at most is of some weight, and goes with the amount
  module _ (hidden : ℤ) (most : ℕ) (took weight : ℕ → ℤ) (flies : ℕ → ℕ) (n : ℕ)
      (alone : side hidden ≤ℤ pos most)
      (light : (p : ℕ) → weight p ≡ pos 0 → side (took p) ≤ℤ pos (flies p))
      (heavy : (p : ℕ) → p < n → weight p ≢ pos 0 → side (hidden +ℤ took p) ≤ℤ pos (most + flies p))
      (one : (p q : ℕ) → weight p ≢ pos 0 → weight q ≢ pos 0 → p ≡ q) where
    abbrev Bounded : Type 0
    Bounded = side (hidden +ℤ sum_below took n) ≤ℤ pos (most + count_below flies n)

    summed : side (hidden +ℤ sum_below took n) ≡ side hidden +ℤ sum_below (λ p. side (took p)) n
    summed = omega (arith, ints, is_side.sums hidden (sum_below took n), side-sum took n)

    all-light : ((p : ℕ) → p < n → weight p ≡ pos 0) → Bounded
    all-light none =
        let each : sum_below (λ p. side (took p)) n ≤ℤ sum_below (λ p. pos (flies p)) n =
        sum_below-le (λ p. side (took p)) (λ p. pos (flies p)) n (λ p less. light p (none p less)) in
        omega (arith, ints, each, pos-count_below flies n, alone, summed)

    one-heavy : (p : ℕ) → p < n → weight p ≢ pos 0 → Bounded
    one-heavy p given some =
        let all : sum_below shifted n ≤ℤ sum_below (λ q. pos (flies q)) n =
        sum_below-le shifted (λ q. pos (flies q)) n (λ q less. each-shifted q (nat_eq q p) refl) in
        let changed = sum_below-changed (λ q. side (took q)) shifted p n given
        (λ q less other. rw (ne_eqb q p other) refl) in
        let at : shifted p ≡ side (hidden +ℤ took p) -ℤ pos most = rw (eq-eqb p p refl) refl in
        omega (arith, ints, all, changed, at, pos-count_below flies n, summed, is_side.sums hidden (took p))
      where
        shifted : ℕ → ℤ
        shifted q = if nat_eq q p then side (hidden +ℤ took p) -ℤ pos most else side (took q)

        lighter : (q : ℕ) → q ≢ p → weight q ≡ pos 0
        lighter q other = elim (zero_or_not (weight q)) [
          | inl none ↦ none
          | inr weighs ↦ absurd (other (one q p weighs some))
        ]

        each-shifted : (q : ℕ) (b : Bool) → nat_eq q p ≡ b
            → (if b then side (hidden +ℤ took p) -ℤ pos most else side (took q)) ≤ℤ pos (flies q)
        each-shifted q true same = subst (λ r. (side (hidden +ℤ took p) -ℤ pos most) ≤ℤ pos (flies r))
            (sym (eqb-true q p same)) (omega (arith, ints, heavy p given some))
        each-shifted q false other = light q (lighter q (eqb-false q p other))

    pub one-bounded : Bounded
    one-bounded = elim (all_or_one weight n) [
      | inl none ↦ all-light none
      | inr (p, given, some) ↦ one-heavy p given some
    ]

-- what is told in place of a value that is off by at most so much, in size and on each side
pub record TellsWithin (value total : ℤ) (size up down : ℕ) : Type 0 where
  pub signed : unsigned_abs (value -ℤ total) ≤ size
  pub at_most : total ≤ℤ pos (at_least_zero value + up)
  pub at_least : at_least_zero value ≢ 0 → pos (at_least_zero value) ≤ℤ (total +ℤ pos down)

pub tells-within : (value total : ℤ) (size up down : ℕ) → (total -ℤ value) ≤ℤ pos size → neg_ℤ (total -ℤ value) ≤ℤ pos size
    → (total -ℤ value) ≤ℤ pos up → neg_ℤ (total -ℤ value) ≤ℤ pos down → TellsWithin value total size up down
tells-within (pos n) total size up down more less over under = record {
  signed = omega (arith, ints, more, less);
  at_most = omega (arith, ints, over);
  at_least = λ some. omega (arith, ints, under);
}
tells-within (negsuc n) total size up down more less over under = record {
  signed = omega (arith, ints, more, less);
  at_most = omega (arith, ints, over);
  at_least = λ some. absurd (some refl);
}
