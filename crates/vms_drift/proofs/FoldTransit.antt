-- What a fold carries at most.
use Rattle.std.proofs.Common.{◌≡◌, ℕ, suc, zero, ◌-◌, ◌*◌, ◌%◌, ◌≤◌, Bool, true, false, All, ℤ, pos, negsuc, neg_ℤ}
use Rattle.std.proofs.Common.{◌+ℤ◌, List, [], ◌∷◌, length, inl, inr, refl, sym, subst, get_or, arith, if◌then◌else◌}
use Rattle.std.proofs.Common.{nat_eq, nat_lt, eq-eqb, ne_eqb, unsigned_abs}
use Rattle.std.proofs.lemmas.Bool.{cases_eq, cases_lt}
use Rattle.std.proofs.lemmas.Bool.Decides.{nat_tests}
use Rattle.std.proofs.lemmas.Int.{ints}
use Rattle.std.proofs.lemmas.List.{get_or_past}
use Rattle.vms_calls.specs.Common.{CpuId, Diffs, FoundPlace, HasGroups, IsFold, SetA, Shape, Step, acknowledges}
use Rattle.vms_calls.specs.Common.{counter_at, entry, first_of_group, group_of, group_steps, in_turn, item_count}
use Rattle.vms_calls.specs.Common.{lists_of, most_threshold, moved, place_steps, system_steps, taken_of_item, to_place}
use Rattle.vms_calls.specs.Common.{to_system}
use Rattle.vms_calls.proofs.Common.{Each, each-append}
use Rattle.vms_drift.proofs.RunningSums.{Runs, runs-append, runs-quiet}

-- a counter: a group is taken, and each entry is added before the next group is taken
module _ (c : CpuId) (k : ℕ) where
  -- what is still to be added of the entries for the counters from n on
  abbrev left : ℕ → List ℤ → ℤ
  left n ds = if nat_lt k n then pos 0 else get_or ds (k - n) (pos 0)

  -- the next addition brings what is carried of the counter back to 0, or is one of another counter
  left-next : (n : ℕ) (d : ℤ) (ds : List ℤ) (z y : ℤ) → z ≡ left n (d ∷ ds)
      → y ≡ z +ℤ (if nat_eq n k then neg_ℤ d else pos 0)
      → (y ≡ left (suc n) ds) × (unsigned_abs y ≤ unsigned_abs z)
  left-next n d ds z y is next = elim (cases_lt k n) [
    | inl past ↦
        let later : nat_lt k n ≡ true = grind (arith, nat_tests) in
        let later_too : nat_lt k (suc n) ≡ true = grind (arith, nat_tests) in
        let other : nat_eq n k ≡ false = ne_eqb n k (λ e. omega arith) in
        let none : z ≡ pos 0 = rw later at is in
        let still : y ≡ z +ℤ pos 0 = rw other at next in
        (rw later_too (omega (arith, ints, none, still)), omega (arith, ints, still))
    | inr here_or_on ↦ elim (cases_eq n k) [
      | inl here ↦
          let not_past : nat_lt k n ≡ false = grind (arith, nat_tests) in
          let later : nat_lt k (suc n) ≡ true = grind (arith, nat_tests) in
          let same : nat_eq n k ≡ true = eq-eqb n k here in
          let first : k - n ≡ 0 = omega (arith, here) in
          let has : z ≡ d = rw (not_past, first) at is in
          let gone : y ≡ z +ℤ neg_ℤ d = rw same at next in
          (rw later (omega (arith, ints, has, gone)), omega (arith, ints, has, gone))
      | inr other_counter ↦
          let not_past : nat_lt k n ≡ false = grind (arith, nat_tests) in
          let on : suc n ≤ k = omega (arith, here_or_on, other_counter) in
          let not_past_too : nat_lt k (suc n) ≡ false = grind (arith, nat_tests) in
          let other : nat_eq n k ≡ false = ne_eqb n k other_counter in
          let further : k - n ≡ suc (k - suc n) = omega (arith, on) in
          let has : z ≡ get_or ds (k - suc n) (pos 0) = rw (not_past, further) at is in
          let still : y ≡ z +ℤ pos 0 = rw other at next in
          (rw not_past_too (omega (arith, ints, has, still)), omega (arith, ints, still))
    ]
  ]

  adds-run : (n : ℕ) (ds : List ℤ) (z : ℤ) → unsigned_abs z ≤ most_threshold → z ≡ left n ds
      → Runs (moved k) most_threshold (λ y. y ≡ pos 0) z (in_turn to_place n ds)
  adds-run n [] z within is = (within, by (nat_lt k n) is)
    where
      by : (b : Bool) → z ≡ (if b then pos 0 else pos 0) → z ≡ pos 0
      by true none = none
      by false none = none
  adds-run n (pos zero ∷ ds) z within is =
      let next = left-next n (pos 0) ds z z is (let none = if-none (nat_eq n k) in omega (arith, ints, none)) in
      adds-run (suc n) ds z within next.0
    where
      if-none : (b : Bool) → (if b then neg_ℤ (pos 0) else pos 0) ≡ pos 0
      if-none true = refl
      if-none false = refl
  adds-run n (pos (suc d) ∷ ds) z within is =
      let next = left-next n (pos (suc d)) ds z (z +ℤ (if nat_eq n k then neg_ℤ (pos (suc d)) else pos 0)) is refl in
      (within, λ s. adds-run (suc n) ds _ (omega (arith, within, next.1)) next.0)
  adds-run n (negsuc d ∷ ds) z within is =
      let next = left-next n (negsuc d) ds z (z +ℤ (if nat_eq n k then neg_ℤ (negsuc d) else pos 0)) is refl in
      (within, λ s. adds-run (suc n) ds _ (omega (arith, within, next.1)) next.0)

  taken-left : (j : ℕ) (w : Diffs) → length w.values ≡ 8
      → (if nat_eq j (group_of k) then entry w.values k else pos 0) ≡ left (first_of_group j) w.values
  taken-left j w eight = elim (cases_eq j (group_of k)) [
    | inl here ↦
        let same : nat_eq j (group_of k) ≡ true = eq-eqb j (group_of k) here in
        let on : nat_lt k (8 * j) ≡ false = grind (arith, nat_tests, here) in
        let at : k - 8 * j ≡ k % 8 = omega (arith, here) in
        rw (same, on, at) refl
    | inr other ↦
        let differ : nat_eq j (group_of k) ≡ false = ne_eqb j (group_of k) other in
        elim (cases_lt k (8 * j)) [
          | inl before ↦
              let past : nat_lt k (8 * j) ≡ true = grind (arith, nat_tests) in
              rw (differ, past) refl
          | inr after_it ↦
              let on : nat_lt k (8 * j) ≡ false = grind (arith, nat_tests) in
              let none = get_or_past w.values (k - 8 * j) (pos 0) (omega (arith, eight, other)) in
              rw (differ, on, none) refl
        ]
  ]

  group-run : (j : ℕ) (w : Diffs) → length w.values ≡ 8 → (z : ℤ) → z ≡ pos 0
      → Runs (moved k) most_threshold (λ y. y ≡ pos 0) z (group_steps c j w)
  group-run j w eight z is = (
    rw is (omega arith),
    λ small.
        let carries : z +ℤ (if nat_eq j (group_of k) then entry w.values k else pos 0)
        ≡ left (first_of_group j) w.values =
        omega (arith, ints, is, taken-left j w eight) in
        adds-run (first_of_group j) w.values _
        (rw carries (left-small (nat_lt k (first_of_group j)) _ (small (k - first_of_group j)))) carries,
  )
    where
      left-small : (b : Bool) (d : ℤ) → unsigned_abs d ≤ most_threshold
          → unsigned_abs (if b then pos 0 else d) ≤ most_threshold
      left-small true d within = omega arith
      left-small false d within = within

  groups-run : (j : ℕ) (ws : List Diffs) → All (λ w. length w.values ≡ 8) ws → (z : ℤ) → z ≡ pos 0
      → Runs (moved k) most_threshold (λ y. y ≡ pos 0) z (in_turn (group_steps c) j ws)
  groups-run j [] eights z is = (rw is (omega arith), is)
  groups-run j (w ∷ ws) eights z is =
      runs-append (moved k) most_threshold (λ y. y ≡ pos 0) (λ y. y ≡ pos 0) (group_steps c j w)
      (in_turn (group_steps c) (suc j) ws) z (group-run j w (eights 0 w (omega arith)) z is)
      (λ y within none. groups-run (suc j) ws (λ n d less. eights (suc n) d (omega arith)) y none)

  place-run : (shape : Shape) (b : Bool) (g : ℕ) (found : FoundPlace) → HasGroups shape found → (z : ℤ) → z ≡ pos 0
      → Runs (moved k) most_threshold (λ y. y ≡ pos 0) z (place_steps shape b c g found)
  place-run shape true g found has z is = (
    rw is (omega arith),
    λ s.
        runs-append (moved k) most_threshold (λ y. y ≡ pos 0) (λ y. y ≡ pos 0)
        (in_turn (group_steps c) (group_of (counter_at shape g 0)) found.groups)
        (SetA (record { number = g }) found.threshold.number ∷ []) _
        (groups-run (group_of (counter_at shape g 0)) found.groups has.eight_each _ (omega (arith, ints, is)))
        (λ y within none. (
          within,
          λ s.
              let still : y +ℤ pos 0 ≡ pos 0 = omega (arith, ints, none) in (rw still (omega arith), still),
        )),
  )
  place-run shape false g found has z is =
      groups-run (group_of (counter_at shape g 0)) found.groups has.eight_each z is

  places-run : (shape : Shape) (is_own : Bool) (g : ℕ) (places : List FoundPlace) → All (HasGroups shape) places
      → (z : ℤ) → z ≡ pos 0
      → Runs (moved k) most_threshold (λ y. y ≡ pos 0) z
      (in_turn (λ g found. place_steps shape (acknowledges shape is_own g) c g found) g places)
  places-run shape is_own g [] has z is = (rw is (omega arith), is)
  places-run shape is_own g (found ∷ places) has z is =
      runs-append (moved k) most_threshold (λ y. y ≡ pos 0) (λ y. y ≡ pos 0)
      (place_steps shape (acknowledges shape is_own g) c g found)
      (in_turn (λ g found. place_steps shape (acknowledges shape is_own g) c g found) (suc g) places) z
      (place-run shape (acknowledges shape is_own g) g found (has 0 found (omega arith)) z is)
      (λ y within none.
      places-run shape is_own (suc g) places (λ n d less. has (suc n) d (omega arith)) y none)

-- the additions to items leave what is carried of a counter
to_system-quiet : (k i : ℕ) (z : ℤ) → Each (λ step. moved k step ≡ pos 0) (to_system i z)
to_system-quiet k i (pos zero) = tt
to_system-quiet k i (pos (suc n)) = (refl, tt)
to_system-quiet k i (negsuc n) = (refl, tt)

systems-quiet : (shape : Shape) (ws : List Diffs) (k i n : ℕ)
    → Each (λ step. moved k step ≡ pos 0) (system_steps shape ws i n)
systems-quiet shape ws k i zero = tt
systems-quiet shape ws k i (suc n) = each-append (λ step. moved k step ≡ pos 0)
    (to_system i (taken_of_item shape i 0 ws)) (system_steps shape ws (suc i) n)
    (to_system-quiet k i (taken_of_item shape i 0 ws)) (systems-quiet shape ws k (suc i) n)

pub fold-counters : (shape : Shape) (is_own : Bool) (c : CpuId) (steps : List Step) → IsFold shape is_own c steps
    → (k : ℕ) → Runs (moved k) most_threshold (λ y. y ≡ pos 0) (pos 0) steps
fold-counters shape is_own c steps folds k =
    subst (Runs (moved k) most_threshold (λ y. y ≡ pos 0) (pos 0)) (sym folds.in_order)
    (runs-append (moved k) most_threshold (λ y. y ≡ pos 0) (λ y. y ≡ pos 0)
    (in_turn (λ g found. place_steps shape (acknowledges shape is_own g) c g found) 0 folds.places)
    (system_steps shape (lists_of folds.places) 0 (item_count shape)) (pos 0)
    (places-run c k shape is_own 0 folds.places folds.groups (pos 0) refl)
    (λ y within none. runs-quiet (moved k) most_threshold (λ y. y ≡ pos 0)
    (system_steps shape (lists_of folds.places) 0 (item_count shape)) y
    (systems-quiet shape (lists_of folds.places) k 0 (item_count shape)) within none))
