-- How near the system-wide value of an item is to its true total.
use Rattle.std.specs.Prelude.{◌≢◌, ℕ, ◌+◌, ◌≤◌, ℤ, pos, ◌+ℤ◌, ◌-ℤ◌, ◌≤ℤ◌, unsigned_abs}
use Rattle.vms_calls.specs.Common.{Facts, History, IsItem, at_least_zero, state_after, system_at}
use Rattle.vms_core.specs.Drift.{size_below_zero}
use Rattle.vms_core.specs.Totals.{true_total_of_item}
use Rattle.vms_near.specs.Hiding.{item_may_hide}
use Rattle.vms_near.specs.ItemFlight.{item_in_flight}

-- a system-wide value of item i, and the pages that are told of it, which are 0 in place of a negative value, are as
-- near the true total of a moment as the CPUs can hide of the item and as is in flight of it
pub record SystemTellsNearly (facts : Facts) (h : History) (i : ℕ) (value : ℤ) : Type 0 where
  pub signed : unsigned_abs (value -ℤ true_total_of_item facts h i)
      ≤ item_may_hide facts h i + item_in_flight unsigned_abs facts h i
  -- the true total is at most what is told, what may be hidden and what is in flight upwards
  pub at_most : true_total_of_item facts h i
      ≤ℤ pos (at_least_zero value + (item_may_hide facts h i + item_in_flight at_least_zero facts h i))
  -- and at least what is told less what may be hidden and what is in flight downwards, where that isn't 0
  pub at_least : at_least_zero value ≢ 0 → pos (at_least_zero value)
      ≤ℤ (true_total_of_item facts h i +ℤ pos (item_may_hide facts h i + item_in_flight size_below_zero facts h i))

-- the system-wide value of each item is
abbrev pub SystemValuesTellNearly : Facts → History → Type 0
SystemValuesTellNearly facts h = (i : ℕ) → IsItem facts.layout i →
    SystemTellsNearly facts h i (system_at (state_after facts h) i)
