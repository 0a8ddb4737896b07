-- For other crates too: how many places, counters, groups and items a layout has, and which belongs to which.
use Rattle.std.proofs.Common.{◌≡◌, ℕ, zero, suc, sym, subst, ◌+◌, ◌*◌, ◌/◌, ◌<◌, ◌≤◌, List, length, get_or, arith, inl}
use Rattle.std.proofs.Common.{inr}
use Rattle.std.specs.List.Sorted.{IsStrictlyIncreasing}
use Rattle.std.proofs.lemmas.Bool.Decides.{nat_tests}
use Rattle.std.proofs.lemmas.Bool.{cases_lt}
use Rattle.std.proofs.lemmas.Nat.{div_below, mod_below, div-mul-add, mod-mul-add, div-add-mod'}
use Rattle.vms_base.specs.Common.{Shape, IsLayout, place_count, counter_count, group_count, counter_at, place_of}
use Rattle.vms_base.specs.Common.{position_of, group_of, first_of_group, item_of, IsPlace, IsCounter, IsGroup, IsItem}

-- numbers that rise grow by at least one a step
grows : (xs : List ℕ) → IsStrictlyIncreasing xs → (k : ℕ) → k < length xs → k ≤ get_or xs k 0
grows xs up zero within = omega arith
grows xs up (suc k) within =
    let before = grows xs up k (omega arith) in
    let step : k + 1 ≡ suc k = omega arith in
    let more = rw step at (up k (omega arith)) in
    omega (arith, more)

module _ (shape : Shape) (layout : IsLayout shape) where
  -- a fact that holds at 8 positions and at 16
  by_positions : (P : ℕ → Type 0) → P 8 → P 16 → P shape.positions
  by_positions P narrow wide =
      elim layout.positions [ inl is ↦ subst P (sym is) narrow | inr is ↦ subst P (sym is) wide ]

  positions-pos : 0 < shape.positions
  positions-pos = by_positions (λ n. 0 < n) (omega arith) (omega arith)

  -- at most as many nodes as there are node numbers
  pub nodes_most-holds : length shape.nodes ≤ 16
  nodes_most-holds = elim (cases_lt (length shape.nodes) 17) [
    | inl few ↦ omega arith
    | inr many ↦ absurd (omega
        (arith, grows shape.nodes layout.nodes_ascend 16 (omega arith), layout.nodes_most 16 0 (omega arith)))
  ]

  pub place_count-most : place_count shape ≤ 32
  place_count-most = omega (arith, nodes_most-holds, layout.zones_most)

  pub counter_count-most : counter_count shape ≤ 512
  counter_count-most =
      by_positions (λ n. n * place_count shape ≤ 512) (omega (arith, place_count-most))
      (omega (arith, place_count-most))

  -- the groups take up all counters
  pub group_count-whole : 8 * group_count shape ≡ counter_count shape
  group_count-whole =
      by_positions (λ n. 8 * (n * place_count shape / 8) ≡ n * place_count shape) (omega arith) (omega arith)

  pub group_count-most : group_count shape ≤ 64
  group_count-most = omega (arith, group_count-whole, counter_count-most)

  -- a counter's place, position, group and item
  pub place_of-lt : (counter : ℕ) → IsCounter shape counter → IsPlace shape (place_of shape counter)
  place_of-lt counter within = div_below counter shape.positions (place_count shape) positions-pos (omega arith)

  pub position_of-lt : (counter : ℕ) → position_of shape counter < shape.positions
  position_of-lt counter = mod_below counter shape.positions positions-pos

  pub group_of-lt : (counter : ℕ) → IsCounter shape counter → IsGroup shape (group_of counter)
  group_of-lt counter within = omega (arith, group_count-whole)

  pub item_of-lt : (counter : ℕ) → IsItem shape (item_of shape counter)
  item_of-lt counter = let within = position_of-lt counter in grind (arith, nat_tests)

  -- a counter is at its position of its place
  pub counter_at-place : (place position : ℕ) → position < shape.positions
      → place_of shape (counter_at shape place position) ≡ place
  counter_at-place place position within =
      let turned : counter_at shape place position ≡ place * shape.positions + position = omega arith in
      rw turned (div-mul-add place shape.positions position within)

  pub counter_at-position : (place position : ℕ) → position < shape.positions
      → position_of shape (counter_at shape place position) ≡ position
  counter_at-position place position within =
      let turned : counter_at shape place position ≡ place * shape.positions + position = omega arith in
      rw turned (mod-mul-add place shape.positions position within)

  pub counter_at-whole : (counter : ℕ) → counter_at shape (place_of shape counter) (position_of shape counter) ≡ counter
  counter_at-whole counter = omega (arith, div-add-mod' counter shape.positions)

  -- the counters of a group have one place
  pub place_of-first_of_group : (counter : ℕ) →
      place_of shape (first_of_group (group_of counter)) ≡ place_of shape counter
  place_of-first_of_group counter = by_positions (λ n. 8 * (counter / 8) / n ≡ counter / n) (omega arith) (omega arith)

  -- the eight counters of a group
  pub IsCounter-member : (group i : ℕ) → IsGroup shape group → i < 8 → IsCounter shape (first_of_group group + i)
  IsCounter-member group i within below = omega (arith, group_count-whole)

pub group_of-member : (group i : ℕ) → i < 8 → group_of (first_of_group group + i) ≡ group
group_of-member group i below = omega arith
