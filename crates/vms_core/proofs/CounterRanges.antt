-- For other crates too: the counters of a place of a layout are the layout's.
use Rattle.std.proofs.Common.{◌≡◌, ℕ, ◌<◌, arith}
use Rattle.std.proofs.lemmas.Nat.{mul-add-lt}
use Rattle.vms_history.specs.Common.{Shape, IsLayout, IsCounter, IsPlace, place_count, counter_at, place_of}
use Rattle.vms_base.proofs.Common.{position_of-lt, counter_at-place}

module _ (shape : Shape) (layout : IsLayout shape) where
  pub counter_at-known : (g n : ℕ) → IsPlace shape g → n < shape.positions → IsCounter shape (counter_at shape g n)
  counter_at-known g n g_in n_in = omega (arith, mul-add-lt g shape.positions n (place_count shape) g_in n_in)

  some_positions : 0 < shape.positions
  some_positions = let within = position_of-lt shape layout 0 in omega arith

  -- the first of them stands there
  pub counter_at-first : (g : ℕ) → place_of shape (counter_at shape g 0) ≡ g
  counter_at-first g = counter_at-place shape layout g 0 some_positions

  pub first-known : (g : ℕ) → IsPlace shape g → IsCounter shape (counter_at shape g 0)
  first-known g g_in = counter_at-known g 0 g_in some_positions
