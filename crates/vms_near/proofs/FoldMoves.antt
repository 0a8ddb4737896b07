-- What a fold carries of a counter it took from one CPU, and nothing is carried where it acknowledges.
use Rattle.std.proofs.Common.{◌≡◌, ℕ, suc, zero, ◌-◌, ◌*◌, ◌%◌, ◌≤◌, Bool, true, false, All, ℤ, pos, negsuc, neg_ℤ}
use Rattle.std.proofs.Common.{◌+ℤ◌, List, [], ◌∷◌, length, inl, inr, refl, sym, subst, get_or, arith, if◌then◌else◌}
use Rattle.std.proofs.Common.{nat_eq, nat_lt, eq-eqb, ne_eqb, Option}
use Rattle.std.proofs.lemmas.Bool.{cases_eq, cases_lt}
use Rattle.std.proofs.lemmas.Bool.Decides.{nat_tests}
use Rattle.std.proofs.lemmas.Int.{ints}
use Rattle.std.proofs.lemmas.List.{get_or_past}
use Rattle.vms_calls.specs.Common.{CpuId, Diffs, FoundPlace, HasGroups, IsFold, SetA, Shape, Step, acknowledges}
use Rattle.vms_calls.specs.Common.{counter_at, entry, first_of_group, group_of, group_steps, in_turn, item_count}
use Rattle.vms_calls.specs.Common.{lists_of, place_steps, system_steps, taken_of_item, to_place, to_system}
use Rattle.vms_calls.proofs.Common.{Each, each-append}
use Rattle.vms_near.proofs.OneCpu.{Goes, Kept, goes-append, goes-each}

module _ (part : ℤ → ℕ) (who : Option CpuId) (c : CpuId) (k change over : ℕ) where
  abbrev Keeping : (ℤ → Type 0) → ℤ → List Step → Type 0
  Keeping = Goes part who c k change over

  -- a group is taken, and each entry is added; so much is still to be added of the entries for the counters from n on
  abbrev left : ℕ → List ℤ → ℤ
  left n ds = if nat_lt k n then pos 0 else get_or ds (k - n) (pos 0)

  left-next : (n : ℕ) (d : ℤ) (ds : List ℤ) (z y : ℤ) → z ≡ left n (d ∷ ds)
      → y ≡ (if nat_eq n k then neg_ℤ d else pos 0) +ℤ z → y ≡ left (suc n) ds
  left-next n d ds z y is next = elim (cases_lt k n) [
    | inl past ↦
        let later : nat_lt k n ≡ true = grind (arith, nat_tests) in
        let later_too : nat_lt k (suc n) ≡ true = grind (arith, nat_tests) in
        let other : nat_eq n k ≡ false = ne_eqb n k (λ e. omega arith) in
        let none : z ≡ pos 0 = rw later at is in
        let still : y ≡ pos 0 +ℤ z = rw other at next in
        rw later_too (omega (arith, ints, none, still))
    | inr here_or_on ↦ elim (cases_eq n k) [
      | inl here ↦
          let not_past : nat_lt k n ≡ false = grind (arith, nat_tests) in
          let later : nat_lt k (suc n) ≡ true = grind (arith, nat_tests) in
          let same : nat_eq n k ≡ true = eq-eqb n k here in
          let first : k - n ≡ 0 = omega (arith, here) in
          let has : z ≡ d = rw (not_past, first) at is in
          let gone : y ≡ neg_ℤ d +ℤ z = rw same at next in
          rw later (omega (arith, ints, has, gone))
      | inr other_counter ↦
          let not_past : nat_lt k n ≡ false = grind (arith, nat_tests) in
          let on : suc n ≤ k = omega (arith, here_or_on, other_counter) in
          let not_past_too : nat_lt k (suc n) ≡ false = grind (arith, nat_tests) in
          let other : nat_eq n k ≡ false = ne_eqb n k other_counter in
          let further : k - n ≡ suc (k - suc n) = omega (arith, on) in
          let has : z ≡ get_or ds (k - suc n) (pos 0) = rw (not_past, further) at is in
          let still : y ≡ pos 0 +ℤ z = rw other at next in
          rw not_past_too (omega (arith, ints, has, still))
    ]
  ]

  adds-go : (n : ℕ) (ds : List ℤ) (z : ℤ) → z ≡ left n ds → Keeping (λ y. y ≡ pos 0) z (in_turn to_place n ds)
  adds-go n [] z is = by (nat_lt k n) is
    where
      by : (b : Bool) → z ≡ (if b then pos 0 else pos 0) → z ≡ pos 0
      by true none = none
      by false none = none
  adds-go n (pos zero ∷ ds) z is =
      let none = if-none (nat_eq n k) in
      adds-go (suc n) ds z (left-next n (pos 0) ds z z is (omega (arith, ints, none)))
    where
      if-none : (b : Bool) → (if b then neg_ℤ (pos 0) else pos 0) ≡ pos 0
      if-none true = refl
      if-none false = refl
  adds-go n (pos (suc d) ∷ ds) z is = (tt, λ some. tt, adds-go (suc n) ds _ (left-next n (pos (suc d)) ds z _ is refl))
  adds-go n (negsuc d ∷ ds) z is = (tt, λ some. tt, adds-go (suc n) ds _ (left-next n (negsuc d) ds z _ is refl))

  taken-left : (j : ℕ) (w : Diffs) → length w.values ≡ 8
      → (if nat_eq j (group_of k) then entry w.values k else pos 0) ≡ left (first_of_group j) w.values
  taken-left j w eight = elim (cases_eq j (group_of k)) [
    | inl here ↦
        let same : nat_eq j (group_of k) ≡ true = eq-eqb j (group_of k) here in
        let on : nat_lt k (8 * j) ≡ false = grind (arith, nat_tests, here) in
        let at : k - 8 * j ≡ k % 8 = omega (arith, here) in
        rw (same, on, at) refl
    | inr other ↦
        let differ : nat_eq j (group_of k) ≡ false = ne_eqb j (group_of k) other in
        elim (cases_lt k (8 * j)) [
          | inl before ↦
              let past : nat_lt k (8 * j) ≡ true = grind (arith, nat_tests) in
              rw (differ, past) refl
          | inr after_it ↦
              let on : nat_lt k (8 * j) ≡ false = grind (arith, nat_tests) in
              let none = get_or_past w.values (k - 8 * j) (pos 0) (omega (arith, eight, other)) in
              rw (differ, on, none) refl
        ]
  ]

  group-goes : (j : ℕ) (w : Diffs) → length w.values ≡ 8 → (z : ℤ) → z ≡ pos 0
      → Keeping (λ y. y ≡ pos 0) z (group_steps c j w)
  group-goes j w eight z is =
      (refl, λ some. refl, adds-go (first_of_group j) w.values _ (omega (arith, ints, is, taken-left j w eight)))

  groups-go : (j : ℕ) (ws : List Diffs) → All (λ w. length w.values ≡ 8) ws → (z : ℤ) → z ≡ pos 0
      → Keeping (λ y. y ≡ pos 0) z (in_turn (group_steps c) j ws)
  groups-go j [] eights z is = is
  groups-go j (w ∷ ws) eights z is =
      goes-append part who c k change over (λ y. y ≡ pos 0) (λ y. y ≡ pos 0) (group_steps c j w)
      (in_turn (group_steps c) (suc j) ws) z (group-goes j w (eights 0 w (omega arith)) z is)
      (λ y none. groups-go (suc j) ws (λ n d less. eights (suc n) d (omega arith)) y none)

  place-goes : (shape : Shape) (b : Bool) (g : ℕ) (found : FoundPlace) → HasGroups shape found → (z : ℤ) → z ≡ pos 0
      → Keeping (λ y. y ≡ pos 0) z (place_steps shape b c g found)
  place-goes shape true g found has z is = (
    tt,
    λ some. tt,
    goes-append part who c k change over (λ y. y ≡ pos 0) (λ y. y ≡ pos 0)
        (in_turn (group_steps c) (group_of (counter_at shape g 0)) found.groups)
        (SetA (record { number = g }) found.threshold.number ∷ []) _
        (groups-go (group_of (counter_at shape g 0)) found.groups has.eight_each _ (omega (arith, ints, is)))
        (λ y none.
        let still : pos 0 +ℤ y ≡ pos 0 = omega (arith, ints, none) in
        (tt, λ some. absurd (some still), still)),
  )
  place-goes shape false g found has z is =
      groups-go (group_of (counter_at shape g 0)) found.groups has.eight_each z is

  places-go : (shape : Shape) (is_own : Bool) (g : ℕ) (places : List FoundPlace) → All (HasGroups shape) places
      → (z : ℤ) → z ≡ pos 0
      → Keeping (λ y. y ≡ pos 0) z
      (in_turn (λ g found. place_steps shape (acknowledges shape is_own g) c g found) g places)
  places-go shape is_own g [] has z is = is
  places-go shape is_own g (found ∷ places) has z is =
      goes-append part who c k change over (λ y. y ≡ pos 0) (λ y. y ≡ pos 0)
      (place_steps shape (acknowledges shape is_own g) c g found)
      (in_turn (λ g found. place_steps shape (acknowledges shape is_own g) c g found) (suc g) places) z
      (place-goes shape (acknowledges shape is_own g) g found (has 0 found (omega arith)) z is)
      (λ y none. places-go shape is_own (suc g) places (λ n d less. has (suc n) d (omega arith)) y none)

  to_system-kept : (i : ℕ) (z : ℤ) → Each (Kept part who c k change over) (to_system i z)
  to_system-kept i (pos zero) = tt
  to_system-kept i (pos (suc n)) = (tt, tt)
  to_system-kept i (negsuc n) = (tt, tt)

  systems-kept : (shape : Shape) (ws : List Diffs) (i n : ℕ)
      → Each (Kept part who c k change over) (system_steps shape ws i n)
  systems-kept shape ws i zero = tt
  systems-kept shape ws i (suc n) = each-append (Kept part who c k change over)
      (to_system i (taken_of_item shape i 0 ws)) (system_steps shape ws (suc i) n)
      (to_system-kept i (taken_of_item shape i 0 ws)) (systems-kept shape ws (suc i) n)

  pub fold-goes : (shape : Shape) (is_own : Bool) (steps : List Step) → IsFold shape is_own c steps
      → Keeping (λ y. Unit {0}) (pos 0) steps
  fold-goes shape is_own steps folds =
      subst (Keeping (λ y. Unit {0}) (pos 0)) (sym folds.in_order)
      (goes-append part who c k change over (λ y. y ≡ pos 0) (λ y. Unit {0})
      (in_turn (λ g found. place_steps shape (acknowledges shape is_own g) c g found) 0 folds.places)
      (system_steps shape (lists_of folds.places) 0 (item_count shape)) (pos 0)
      (places-go shape is_own 0 folds.places folds.groups (pos 0) refl)
      (λ y none. goes-each part who c k change over (system_steps shape (lists_of folds.places) 0 (item_count shape)) y
      (systems-kept shape (lists_of folds.places) 0 (item_count shape))))
