-- How near the value of a counter is to its true total.
use Rattle.std.specs.Prelude.{◌≢◌, ℕ, ◌+◌, ◌≤◌, ℤ, pos, ◌+ℤ◌, ◌-ℤ◌, ◌≤ℤ◌, unsigned_abs}
use Rattle.vms_calls.specs.Common.{Facts, History, IsCounter, at_least_zero, place_of, state_after, true_total}
use Rattle.vms_calls.specs.Common.{value_at}
use Rattle.vms_core.specs.Drift.{size_below_zero}
use Rattle.vms_near.specs.Hiding.{all_may_hide}
use Rattle.vms_near.specs.InFlight.{in_flight}

-- how far a value of counter k may be off at a moment: by what the CPUs may hide and by what is in flight
abbrev pub most_off : Facts → History → (k : ℕ) → ℕ
most_off facts h k = all_may_hide facts h (place_of facts.layout k) + in_flight unsigned_abs facts h k

-- how far above what is told of it the true total may be, and how far below
abbrev pub most_above : Facts → History → (k : ℕ) → ℕ
most_above facts h k = all_may_hide facts h (place_of facts.layout k) + in_flight at_least_zero facts h k

abbrev pub most_below : Facts → History → (k : ℕ) → ℕ
most_below facts h k = all_may_hide facts h (place_of facts.layout k) + in_flight size_below_zero facts h k

-- a value of counter k, and the pages that are told of it, which are 0 in place of a negative value, are that near the
-- true total of a moment
pub record TellsNearly (facts : Facts) (h : History) (k : ℕ) (value : ℤ) : Type 0 where
  pub signed : unsigned_abs (value -ℤ true_total facts h k) ≤ most_off facts h k
  -- the true total is at most what is told and so many pages
  pub at_most : true_total facts h k ≤ℤ pos (at_least_zero value + most_above facts h k)
  -- and at least what is told less so many, where that isn't 0
  pub at_least : at_least_zero value ≢ 0 →
      pos (at_least_zero value) ≤ℤ (true_total facts h k +ℤ pos (most_below facts h k))

-- the value of each counter is
abbrev pub ValuesTellNearly : Facts → History → Type 0
ValuesTellNearly facts h = (k : ℕ) → IsCounter facts.layout k → TellsNearly facts h k (value_at (state_after facts h) k)
