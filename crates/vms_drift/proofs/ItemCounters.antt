-- For other crates too: an item has one counter in each zone, or one in each node.
use Rattle.std.proofs.Common.{◌≡◌, ℕ, suc, zero, ◌+◌, ◌*◌, ◌<◌, ◌≤◌, ◌⊎◌, inl, inr, Bool, true, false, length, refl}
use Rattle.std.proofs.Common.{arith, if◌then◌else◌, nat_eq, nat_lt, eqb-true}
use Rattle.std.proofs.lemmas.Bool.{ne_eqb, cases_lt}
use Rattle.std.proofs.lemmas.Bool.Decides.{nat_tests}
use Rattle.vms_base.proofs.Common.{counter_at-place, counter_at-position}
use Rattle.vms_calls.specs.Common.{IsLayout, Shape, count_below, counter_at, counter_count, item_of, place_count}
use Rattle.vms_calls.specs.Common.{place_of}
use Rattle.vms_drift.specs.PresentCpus.{parts_of}
use Rattle.vms_history.proofs.Common.{count_below-same}

-- of the numbers from a on, n of them, at most one is i
module _ (a i most : ℕ) where
  abbrev at_i : ℕ → ℕ
  at_i q = if nat_eq (a + q) i then most else 0

  none_is : (n : ℕ) → (i < a) ⊎ (a + n ≤ i) → count_below at_i n ≡ 0
  none_is zero outside = refl
  none_is (suc n) outside =
      let differ : nat_eq (a + n) i ≡ false =
      ne_eqb (a + n) i (λ e. elim outside [ inl below ↦ omega arith | inr above ↦ omega arith ]) in
      rw differ (omega (arith, none_is n (elim outside [ inl below ↦ inl below | inr above ↦ inr (omega arith) ])))

  one_is : (n : ℕ) → count_below at_i n ≤ most
  one_is zero = omega arith
  one_is (suc n) = by (nat_eq (a + n) i) refl (one_is n)
    where
      by : (b : Bool) → nat_eq (a + n) i ≡ b → count_below at_i n ≤ most
          → (if b then most else 0) + count_below at_i n ≤ most
      by true here rest =
          let at : a + n ≡ i = eqb-true (a + n) i here in
          omega (arith, none_is n (inr (omega arith)))
      by false other rest = omega (arith, rest)

pub count_below-split : (f : ℕ → ℕ) (m n : ℕ) → count_below f (m + n) ≡ count_below f m + count_below (λ k. f (m + k)) n
count_below-split f m zero = let at : m + 0 ≡ m = omega arith in rw at (omega arith)
count_below-split f m (suc n) =
    let at : m + suc n ≡ suc (m + n) = omega arith in rw at (omega (arith, count_below-split f m n))

-- m rows of w values: a sum over all is at most the bounds of the rows
rows-most : (f bound : ℕ → ℕ) (w m : ℕ) → ((g : ℕ) → g < m → count_below (λ q. f (w * g + q)) w ≤ bound g)
    → count_below f (w * m) ≤ count_below bound m
rows-most f bound w zero within = let none : w * 0 ≡ 0 = omega arith in rw none (omega arith)
rows-most f bound w (suc m) within =
    let all : w * suc m ≡ w * m + w = omega arith in
    rw all
    (omega (
      arith,
      count_below-split f (w * m) w,
      within m (omega arith),
      rows-most f bound w m (λ g below. within g (omega arith)),
    ))

-- the first z of n are bounded by one number, the rest by another
bounds-sum : (first rest z n : ℕ) → count_below (λ g. if nat_lt g z then first else rest) (z + n) ≡ z * first + n * rest
bounds-sum first rest z n = omega (arith, count_below-split bound z n, firsts z (omega arith), rests n)
  where
    bound : ℕ → ℕ
    bound g = if nat_lt g z then first else rest

    firsts : (m : ℕ) → m ≤ z → count_below bound m ≡ m * first
    firsts zero below = omega arith
    firsts (suc m) below =
        let is : nat_lt m z ≡ true = grind (arith, nat_tests) in
        let more : suc m * first ≡ first + m * first = omega arith in
        rw (is, more) (omega (arith, firsts m (omega arith)))

    rests : (m : ℕ) → count_below (λ g. bound (z + g)) m ≡ m * rest
    rests zero = omega arith
    rests (suc m) =
        let is : nat_lt (z + m) z ≡ false = grind (arith, nat_tests) in
        let more : suc m * rest ≡ rest + m * rest = omega arith in
        rw (is, more) (omega (arith, rests m))

module _ (shape : Shape) (layout : IsLayout shape) (i most : ℕ) where
  abbrev of_item : ℕ → ℕ
  of_item k = if nat_eq (item_of shape k) i then most else 0

  item_of-zone : (g q : ℕ) → g < length shape.zones → q < shape.positions → item_of shape (counter_at shape g q) ≡ 0 + q
  item_of-zone g q g_in q_in =
      let is_zone : nat_lt g (length shape.zones) ≡ true = grind (arith, nat_tests) in
      rw (counter_at-place shape layout g q q_in, counter_at-position shape layout g q q_in, is_zone) (omega arith)

  item_of-node : (g q : ℕ) → length shape.zones ≤ g → q < shape.positions
      → item_of shape (counter_at shape g q) ≡ shape.positions + q
  item_of-node g q g_in q_in =
      let is_node : nat_lt g (length shape.zones) ≡ false = grind (arith, nat_tests) in
      rw (counter_at-place shape layout g q q_in, counter_at-position shape layout g q q_in, is_node) refl

  zone_row : (g : ℕ) → g < length shape.zones
      → count_below (λ q. of_item (shape.positions * g + q)) shape.positions
      ≡ count_below (at_i 0 i most) shape.positions
  zone_row g g_in = count_below-same (λ q. of_item (shape.positions * g + q)) (at_i 0 i most) shape.positions
      (λ q q_in. rw (item_of-zone g q g_in q_in) refl)

  node_row : (g : ℕ) → length shape.zones ≤ g
      → count_below (λ q. of_item (shape.positions * g + q)) shape.positions
      ≡ count_below (at_i shape.positions i most) shape.positions
  node_row g g_in =
      count_below-same (λ q. of_item (shape.positions * g + q)) (at_i shape.positions i most) shape.positions
      (λ q q_in. rw (item_of-node g q g_in q_in) refl)

  -- the item's counters of at most `most` each
  pub item-most : count_below of_item (counter_count shape) ≤ parts_of shape i * most
  item-most = elim (cases_lt i shape.positions) [
    | inl of_zones ↦
        let is : nat_lt i shape.positions ≡ true = grind (arith, nat_tests) in
        rw is
        (omega (
          arith,
          rows-most of_item (λ g. if nat_lt g (length shape.zones) then most else 0) shape.positions
              (place_count shape) (λ g g_in. elim (cases_lt g (length shape.zones)) [
                | inl zone ↦
                    let first : nat_lt g (length shape.zones) ≡ true = grind (arith, nat_tests) in
                    rw (first, zone_row g zone) (one_is 0 i most shape.positions)
                | inr node ↦
                    let later : nat_lt g (length shape.zones) ≡ false = grind (arith, nat_tests) in
                    rw (later, node_row g node)
                    (omega (arith, none_is shape.positions i most shape.positions (inl of_zones)))
              ]),
          bounds-sum most 0 (length shape.zones) (length shape.nodes),
        ))
    | inr of_nodes ↦
        let is : nat_lt i shape.positions ≡ false = grind (arith, nat_tests) in
        rw is
        (omega (
          arith,
          rows-most of_item (λ g. if nat_lt g (length shape.zones) then 0 else most) shape.positions
              (place_count shape) (λ g g_in. elim (cases_lt g (length shape.zones)) [
                | inl zone ↦
                    let first : nat_lt g (length shape.zones) ≡ true = grind (arith, nat_tests) in
                    rw (first, zone_row g zone)
                    (omega (arith, none_is 0 i most shape.positions (inr (omega arith))))
                | inr node ↦
                    let later : nat_lt g (length shape.zones) ≡ false = grind (arith, nat_tests) in
                    rw (later, node_row g node) (one_is shape.positions i most shape.positions)
              ]),
          bounds-sum 0 most (length shape.zones) (length shape.nodes),
        ))
  ]

-- an item of zones has one counter in each zone, of which each is bounded by its zone
module _ (shape : Shape) (layout : IsLayout shape) (i : ℕ) (of_zones : i < shape.positions) (most : ℕ → ℕ) where
  abbrev in_place : ℕ → ℕ
  in_place k = if nat_eq (item_of shape k) i then most (place_of shape k) else 0

  abbrev in_zone : ℕ → ℕ
  in_zone g = if nat_lt g (length shape.zones) then most g else 0

  zone_place : (g : ℕ) → g < length shape.zones
      → count_below (λ q. in_place (shape.positions * g + q)) shape.positions ≤ in_zone g
  zone_place g g_in =
      let first : nat_lt g (length shape.zones) ≡ true = grind (arith, nat_tests) in
      let same = count_below-same (λ q. in_place (shape.positions * g + q)) (at_i 0 i (most g)) shape.positions
      (λ q q_in. rw (item_of-zone shape layout i (most g) g q g_in q_in, counter_at-place shape layout g q q_in) refl) in
      rw (first, same) (one_is 0 i (most g) shape.positions)

  node_place : (g : ℕ) → length shape.zones ≤ g
      → count_below (λ q. in_place (shape.positions * g + q)) shape.positions ≤ in_zone g
  node_place g g_in =
      let later : nat_lt g (length shape.zones) ≡ false = grind (arith, nat_tests) in
      let same = count_below-same (λ q. in_place (shape.positions * g + q)) (at_i shape.positions i (most g))
      shape.positions
      (λ q q_in. rw (item_of-node shape layout i (most g) g q g_in q_in, counter_at-place shape layout g q q_in) refl) in
      let none = none_is shape.positions i (most g) shape.positions (inl of_zones) in
      rw later (omega (arith, same, none))

  zones-alone : (n : ℕ) → count_below in_zone (length shape.zones + n) ≡ count_below most (length shape.zones)
  zones-alone n = omega (
    arith,
    count_below-split in_zone (length shape.zones) n,
    count_below-same in_zone most (length shape.zones)
        (λ g g_in. let is : nat_lt g (length shape.zones) ≡ true = grind (arith, nat_tests) in rw is refl),
    rests n,
  )
    where
      rests : (m : ℕ) → count_below (λ g. in_zone (length shape.zones + g)) m ≡ 0
      rests zero = refl
      rests (suc m) =
          let is : nat_lt (length shape.zones + m) (length shape.zones) ≡ false = grind (arith, nat_tests) in
          rw is (omega (arith, rests m))

  pub zone_item-most : count_below in_place (counter_count shape) ≤ count_below most (length shape.zones)
  zone_item-most = omega (
    arith,
    rows-most in_place in_zone shape.positions (place_count shape)
        (λ g g_in. elim (cases_lt g (length shape.zones)) [
          | inl zone ↦ zone_place g zone
          | inr node ↦ node_place g node
        ]),
    zones-alone (length shape.nodes),
  )
