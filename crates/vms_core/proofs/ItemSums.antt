-- For other crates too: an item has a counter in at most sixteen places.
use Rattle.std.proofs.Common.{◌≡◌, ℕ, suc, zero, ◌+◌, ◌*◌, ◌<◌, ◌≤◌, ◌⊎◌, inl, inr, Bool, true, false, length, ℤ, pos}
use Rattle.std.proofs.Common.{◌+ℤ◌, ◌≤ℤ◌, refl, ap, arith, if◌then◌else◌, nat_eq, nat_lt, eqb-true}
use Rattle.std.proofs.Math.Nat.{mul-le-mul_right}
use Rattle.std.proofs.lemmas.Int.{ints}
use Rattle.std.proofs.lemmas.Bool.{ne_eqb, cases_lt}
use Rattle.std.proofs.lemmas.Bool.Decides.{nat_tests}
use Rattle.vms_history.specs.Common.{Shape, IsLayout, IsCounter, counter_at, item_of, counter_count, place_count}
use Rattle.vms_history.specs.Common.{sum_below}
use Rattle.vms_base.proofs.Common.{nodes_most-holds, counter_at-place, counter_at-position}
use Rattle.vms_history.proofs.Common.{sum_below-same, sum_below-zeros}
use Rattle.vms_core.proofs.CounterRanges.{counter_at-known}
use Rattle.vms_core.proofs.Items.{sum_below-split}

-- of the numbers from a on, n of them, at most one is i
module _ (a i : ℕ) (f : ℕ → ℤ) where
  abbrev pub at_i : ℕ → ℤ
  at_i q = if nat_eq (a + q) i then f q else pos 0

  pub none_is : (n : ℕ) → (i < a) ⊎ (a + n ≤ i) → sum_below at_i n ≡ pos 0
  none_is n outside =
      sum_below-zeros at_i n (λ q q_in.
      let differ : nat_eq (a + q) i ≡ false =
      ne_eqb (a + q) i (λ e. elim outside [ inl below ↦ omega arith | inr above ↦ omega arith ]) in
      rw differ refl)

  pub one_is : (n most : ℕ) → ((q : ℕ) → q < n → f q ≤ℤ pos most) → sum_below at_i n ≤ℤ pos most
  one_is zero most within = omega (arith, ints)
  one_is (suc n) most within = by (nat_eq (a + n) i) refl (one_is n most (λ q below. within q (omega arith)))
    where
      by : (b : Bool) → nat_eq (a + n) i ≡ b → sum_below at_i n ≤ℤ pos most
          → ((if b then f n else pos 0) +ℤ sum_below at_i n) ≤ℤ pos most
      by true here rest =
          let at : a + n ≡ i = eqb-true (a + n) i here in
          omega (arith, ints, within n (omega arith), none_is n (inr (omega arith)))
      by false other rest = omega (arith, ints)

-- m rows of w values, each row of at most `most` together
rows-most : (f : ℕ → ℤ) (w m most : ℕ) → ((g : ℕ) → g < m → sum_below (λ q. f (w * g + q)) w ≤ℤ pos most)
    → sum_below f (w * m) ≤ℤ pos (m * most)
rows-most f w zero most within = let none : w * 0 ≡ 0 = omega arith in rw none (omega (arith, ints))
rows-most f w (suc m) most within =
    let all : w * suc m ≡ w * m + w = omega arith in
    let more : suc m * most ≡ m * most + most = omega arith in
    rw (all, more)
    (omega (
      arith,
      ints,
      sum_below-split f (w * m) w,
      within m (omega arith),
      rows-most f w m most
          (λ g below. within g (omega arith)),
    ))

module _ (shape : Shape) (layout : IsLayout shape) where
  item_of-zone : (g q : ℕ) → g < length shape.zones → q < shape.positions → item_of shape (counter_at shape g q) ≡ 0 + q
  item_of-zone g q g_in q_in =
      let is_zone : nat_lt g (length shape.zones) ≡ true = grind (arith, nat_tests) in
      rw (counter_at-place shape layout g q q_in, counter_at-position shape layout g q q_in, is_zone) (omega arith)

  item_of-node : (g q : ℕ) → length shape.zones ≤ g → q < shape.positions
      → item_of shape (counter_at shape g q) ≡ shape.positions + q
  item_of-node g q g_in q_in =
      let is_node : nat_lt g (length shape.zones) ≡ false = grind (arith, nat_tests) in
      rw (counter_at-place shape layout g q q_in, counter_at-position shape layout g q q_in, is_node) refl

  module _ (i most : ℕ) (f : ℕ → ℤ) (within : (k : ℕ) → IsCounter shape k → f k ≤ℤ pos most) where
    abbrev of_item : ℕ → ℤ
    of_item k = if nat_eq (item_of shape k) i then f k else pos 0

    zone_row : (g : ℕ) → g < length shape.zones → sum_below (λ q. of_item (shape.positions * g + q)) shape.positions
        ≡ sum_below (at_i 0 i (λ q. f (shape.positions * g + q))) shape.positions
    zone_row g g_in =
        sum_below-same (λ q. of_item (shape.positions * g + q))
        (at_i 0 i (λ q. f (shape.positions * g + q))) shape.positions
        (λ q q_in. rw (item_of-zone g q g_in q_in) refl)

    node_row : (g : ℕ) → length shape.zones ≤ g → sum_below (λ q. of_item (shape.positions * g + q)) shape.positions
        ≡ sum_below (at_i shape.positions i (λ q. f (shape.positions * g + q))) shape.positions
    node_row g g_in =
        sum_below-same (λ q. of_item (shape.positions * g + q))
        (at_i shape.positions i (λ q. f (shape.positions * g + q))) shape.positions
        (λ q q_in. rw (item_of-node g q g_in q_in) refl)

    -- the sum over the zones' counters, and over the nodes'
    zones_within : (each : ℕ)
        → ((g : ℕ) → g < length shape.zones
        → sum_below (λ q. of_item (shape.positions * g + q)) shape.positions ≤ℤ pos each)
        → sum_below of_item (shape.positions * length shape.zones) ≤ℤ pos (length shape.zones * each)
    zones_within each row = rows-most of_item shape.positions (length shape.zones) each row

    nodes_within : (each : ℕ)
        → ((g : ℕ) → length shape.zones ≤ g → g < place_count shape
        → sum_below (λ q. of_item (shape.positions * g + q)) shape.positions ≤ℤ pos each)
        → sum_below (λ k. of_item (shape.positions * length shape.zones + k)) (shape.positions * length shape.nodes)
        ≤ℤ pos (length shape.nodes * each)
    nodes_within each row =
        rows-most (λ k. of_item (shape.positions * length shape.zones + k)) shape.positions (length shape.nodes) each
        (λ g g_in.
        let moved : sum_below (λ q. of_item (shape.positions * length shape.zones + (shape.positions * g + q)))
        shape.positions
        ≡ sum_below (λ q. of_item (shape.positions * (length shape.zones + g) + q)) shape.positions =
        sum_below-same (λ q. of_item (shape.positions * length shape.zones + (shape.positions * g + q)))
        (λ q. of_item (shape.positions * (length shape.zones + g) + q)) shape.positions (λ q q_in.
        ap of_item (let at : shape.positions * length shape.zones + (shape.positions * g + q)
        ≡ shape.positions * (length shape.zones + g) + q
        = omega arith in at)) in
        rw moved (row (length shape.zones + g) (omega arith) (omega arith)))

    halves : sum_below of_item (counter_count shape)
        ≡ sum_below of_item (shape.positions * length shape.zones)
        +ℤ sum_below (λ k. of_item (shape.positions * length shape.zones + k)) (shape.positions * length shape.nodes)
    halves =
        let all : counter_count shape ≡ shape.positions * length shape.zones + shape.positions * length shape.nodes =
        omega arith in
        rw all (omega (
          arith,
          ints,
          sum_below-split of_item (shape.positions * length shape.zones)
              (shape.positions * length shape.nodes),
        ))

    pub item-most : sum_below of_item (counter_count shape) ≤ℤ pos (16 * most)
    item-most = elim (cases_lt i shape.positions) [
      | inl of_zones ↦
          let first = zones_within most (λ g g_in. rw (zone_row g g_in)
          (one_is 0 i (λ q. f (shape.positions * g + q)) shape.positions most
          (λ q q_in. within _ (counter_at-known shape layout g q (omega arith) q_in)))) in
          let second = nodes_within 0 (λ g g_in g_below. rw (node_row g g_in)
          (let none = none_is shape.positions i (λ q. f (shape.positions * g + q)) shape.positions (inl of_zones) in
          omega (arith, ints, none))) in
          let few : length shape.zones * most ≤ 16 * most = mul-le-mul_right most layout.zones_most in
          omega (arith, ints, halves, first, second, few)
      | inr of_nodes ↦
          let first = zones_within 0 (λ g g_in. rw (zone_row g g_in)
          (let none = none_is 0 i (λ q. f (shape.positions * g + q)) shape.positions (inr (omega arith)) in
          omega (arith, ints, none))) in
          let second = nodes_within most (λ g g_in g_below. rw (node_row g g_in)
          (one_is shape.positions i (λ q. f (shape.positions * g + q)) shape.positions most
          (λ q q_in. within _ (counter_at-known shape layout g q g_below q_in)))) in
          let few : length shape.nodes * most ≤ 16 * most = mul-le-mul_right most (nodes_most-holds shape layout) in
          omega (arith, ints, halves, first, second, few)
    ]
