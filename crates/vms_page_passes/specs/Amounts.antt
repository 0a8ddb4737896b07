-- What the passes in their slots carry, and what a step makes of it.
use Rattle.std.specs.Prelude.{◌≡◌, ℕ, ◌+◌, ◌<◌, ◌^◌, ℤ, pos, ◌+ℤ◌, nat_eq, if◌then◌else◌, unsigned_abs}
use Rattle.vms_history.specs.Common.{IsCounter, IsItem, Shape, counter_count, item_count}
use Rattle.vms_cells.specs.Cells.{HasCells, at}
use Rattle.vms_page_passes.specs.declared.amounts.Amounts.{Amounts}

-- there is an amount for each slot and counter, and for each slot and item
pub record HasAmounts (shape : Shape) (amounts : Amounts) : Type 0 where
  pub by_counter : HasCells (shape.cpus + 1) (counter_count shape) amounts.by_counter
  pub by_item : HasCells (shape.cpus + 1) (item_count shape) amounts.by_item

-- the pass in a slot carries so much more for each counter and each item, and the others carry what they did
pub record Carries (shape : Shape) (slot : ℕ) (counters items : ℕ → ℤ) (old new : Amounts) : Type 0 where
  pub shaped : HasAmounts shape new
  pub by_counter : (s k : ℕ) → IsCounter shape k → at new.by_counter s k (pos 0)
      ≡ (if nat_eq slot s then counters k +ℤ at old.by_counter s k (pos 0) else at old.by_counter s k (pos 0))
  pub by_item : (s i : ℕ) → IsItem shape i → at new.by_item s i (pos 0)
      ≡ (if nat_eq slot s then items i +ℤ at old.by_item s i (pos 0) else at old.by_item s i (pos 0))

-- what the pass in a slot carries is small
pub record HasRoom (shape : Shape) (slot : ℕ) (amounts : Amounts) : Type 0 where
  pub by_counter : (k : ℕ) → IsCounter shape k → unsigned_abs (at amounts.by_counter slot k (pos 0)) < 2 ^ 62
  pub by_item : (i : ℕ) → IsItem shape i → unsigned_abs (at amounts.by_item slot i (pos 0)) < 2 ^ 62
