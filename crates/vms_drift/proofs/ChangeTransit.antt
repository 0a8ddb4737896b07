-- What a change carries at most.
use Rattle.std.proofs.Common.{◌≡◌, ℕ, ◌+◌, ◌/◌, ◌%◌, ◌≤◌, Bool, true, false, ℤ, pos, neg_ℤ, ◌+ℤ◌, List, [], ◌∷◌, refl}
use Rattle.std.proofs.Common.{sym, subst, arith, if◌then◌else◌, nat_eq, nat_le, unsigned_abs}
use Rattle.std.proofs.lemmas.Int.{ints}
use Rattle.vms_calls.specs.Common.{AddG, AddS, Carries, CounterId, CpuId, Dec, Diffs, Exchanges, GroupId, Inc, IsChange}
use Rattle.vms_calls.specs.Common.{LoadD, LoadT, Miss, Mod, Mode, PlaceId, group_of, place_of, Put, Shape, Step, amount}
use Rattle.vms_calls.specs.Common.{carried_by, entry, item_of, missed, most_threshold, moved, moved_of_item, nothing}
use Rattle.vms_calls.specs.Common.{won}
use Rattle.vms_core.specs.Changes.{overstep_of}
use Rattle.vms_drift.proofs.RunningSums.{Runs, runs-append}
use Rattle.vms_drift.specs.Transit.{most_beyond}

overstep-small : (how : Mode) (t : ℕ) → t ≤ most_threshold → unsigned_abs (overstep_of how t) ≤ most_threshold / 2
overstep-small Mod t small = omega arith
overstep-small Inc t small = omega (arith, small)
overstep-small Dec t small = omega (arith, ints, small)

carried-small : (how : Mode) (t : ℕ) (found delta : ℤ) → unsigned_abs found ≤ most_threshold → t ≤ most_threshold
    → unsigned_abs (carried_by how t found delta) ≤ unsigned_abs delta + most_beyond
carried-small how t found delta found_small small =
    by (nat_le (unsigned_abs (found +ℤ delta)) t) (overstep-small how t small)
  where
    by : (b : Bool) → unsigned_abs (overstep_of how t) ≤ most_threshold / 2
        → unsigned_abs (if b then pos 0 else (found +ℤ delta) +ℤ overstep_of how t)
        ≤ unsigned_abs delta + most_beyond
    by true over = omega arith
    by false over = omega (arith, ints, over, found_small)

-- an amount that counts or not
if-within : (b : Bool) (z : ℤ) (most : ℕ) → unsigned_abs z ≤ most
    → unsigned_abs (if b then z else pos 0) ≤ (if b then most else 0)
if-within true z most within = within
if-within false z most within = omega arith

-- a change by any measure that counts what is carried where b holds, and that counts the additions of it
module _ (m : Step → ℤ) (b : Bool) (shape : Shape) (k : CounterId) (delta : ℤ) (how : Mode)
    (put : (w : Diffs) (t : ℕ) → m (Put k w t delta how)
    ≡ (if b then carried_by how t (entry w.values k.number) delta else pos 0))
    (threshold : (g : PlaceId) (t a : ℕ) → m (LoadT g t a) ≡ pos 0)
    (group : (c : CpuId) (j : GroupId) (w : Diffs) → m (LoadD c j w) ≡ pos 0)
    (miss : (j : GroupId) (w : Diffs) → m (Miss j w) ≡ pos 0)
    (half : (z : ℤ) → unsigned_abs ((if b then z else pos 0) +ℤ m (AddG k z))
    ≤ unsigned_abs (if b then z else pos 0))
    (back : (z : ℤ) →
    ((if b then z else pos 0) +ℤ m (AddG k z)) +ℤ m (AddS (record { number = item_of shape k.number }) z)
    ≡ pos 0) where
  abbrev most : ℕ
  most = if b then unsigned_abs delta + most_beyond else 0

  abbrev counted : ℤ → ℤ
  counted z = if b then z else pos 0

  -- in the end nothing is carried
  additions-run : (z : ℤ) (steps : List Step) → Carries shape k z steps → (y : ℤ) → y ≡ counted z
      → unsigned_abs y ≤ most → Runs m most (λ y. Unit {0}) y steps
  additions-run z steps nothing y is within = (within, tt)
  additions-run z steps (amount z' some) y is within = (
    within,
    λ s. (
      rw is (let small = half z' in let first : unsigned_abs (counted z') ≤ most = rw is at within in
          omega (arith, small, first)),
      λ s. (rw (is, back z') (omega arith), tt),
    ),
  )

  put-run : (w : Diffs) (t : ℕ) (y : ℤ) → y ≡ pos 0
      → Runs m most (λ z. z ≡ counted (carried_by how t (entry w.values k.number) delta)) y
      (Put k w t delta how ∷ [])
  put-run w t y is = (
    rw is (omega arith),
    λ small.
        let carries : y +ℤ m (Put k w t delta how) ≡ counted (carried_by how t (entry w.values k.number) delta) =
        omega (arith, ints, is, put w t) in (
          rw carries (if-within b (carried_by how t (entry w.values k.number) delta) (unsigned_abs delta + most_beyond)
              (carried-small how t (entry w.values k.number) delta (small.0 (k.number % 8)) small.1)),
          carries,
        ),
  )

  exchange-run : (w : Diffs) (t : ℕ) (last : Diffs) (steps : List Step) → Exchanges k w t delta how last steps
      → (y : ℤ) → y ≡ pos 0
      → Runs m most (λ z. z ≡ counted (carried_by how t (entry last.values k.number) delta)) y steps
  exchange-run w t last steps won y is = put-run w t y is
  exchange-run w t last steps (missed zeros are) y is = (
    rw is (omega arith),
    λ s.
        put-run zeros t (y +ℤ m (Miss (record { number = group_of k.number }) w))
        (omega (arith, ints, is, miss (record { number = group_of k.number }) w)),
  )

  pub change-run : (cpu : CpuId) (steps : List Step) → IsChange shape cpu k delta how steps
      → Runs m most (λ y. Unit {0}) (pos 0) steps
  change-run cpu steps change =
      let place : PlaceId = record { number = place_of shape k.number } in
      let group_id : GroupId = record { number = group_of k.number } in
      let first = threshold place change.t change.number in
      let second = group cpu group_id change.first in
      subst (Runs m most (λ y. Unit {0}) (pos 0)) (sym change.in_order) (
        omega arith,
        λ s. (
          rw first (omega arith),
          λ s. runs-append m most
              (λ z. z ≡ counted (carried_by how change.t (entry change.last.values k.number) delta)) (λ y. Unit {0})
              change.exchange change.additions _
              (exchange-run change.first change.t change.last change.exchange change.exchanges _
              (omega (arith, ints, first, second)))
              (λ y within is. additions-run (carried_by how change.t (entry change.last.values k.number) delta)
              change.additions change.carries y is within),
        ),
      )

if-back : (b : Bool) (z : ℤ) → (if b then z else pos 0) +ℤ (if b then neg_ℤ z else pos 0) ≡ pos 0
if-back true z = omega (arith, ints)
if-back false z = refl

module _ (shape : Shape) (cpu : CpuId) (k : CounterId) (delta : ℤ) (how : Mode) (steps : List Step)
    (change : IsChange shape cpu k delta how steps) where
  pub change-counters : (l : ℕ)
      → Runs (moved l) (if nat_eq k.number l then unsigned_abs delta + most_beyond else 0) (λ y. Unit {0}) (pos 0) steps
  change-counters l = change-run (moved l) (nat_eq k.number l) shape k delta how (λ w t. refl) (λ g t a. refl)
      (λ c j w. refl) (λ j w. refl)
      (λ z. let none = if-back (nat_eq k.number l) z in rw none (omega arith))
      (λ z. let none = if-back (nat_eq k.number l) z in omega (arith, ints, none)) cpu steps change

  pub change-items : (i : ℕ) → Runs (moved_of_item shape i)
      (if nat_eq (item_of shape k.number) i then unsigned_abs delta + most_beyond else 0) (λ y. Unit {0}) (pos 0) steps
  change-items i = change-run (moved_of_item shape i) (nat_eq (item_of shape k.number) i) shape k delta how
      (λ w t. refl) (λ g t a. refl) (λ c j w. refl) (λ j w. refl)
      (λ z. omega (arith, ints))
      (λ z. let none = if-back (nat_eq (item_of shape k.number) i) z in omega (arith, ints, none)) cpu steps change
