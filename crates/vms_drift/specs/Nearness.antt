-- How far a number may be from the truth.
use Rattle.std.specs.Prelude.{◌≢◌, ℕ, ◌+◌, ◌≤◌, ℤ, pos, ◌+ℤ◌, ◌-ℤ◌, ◌≤ℤ◌, unsigned_abs}
use Rattle.vms_calls.specs.Common.{at_least_zero}

-- a value is within so many pages of a total, and so is the number that a reader is told, which is 0 in place of a
-- negative value
pub record IsNear (value total : ℤ) (pages : ℕ) : Type 0 where
  pub signed : unsigned_abs (value -ℤ total) ≤ pages
  -- the total is at most the number and so many pages
  pub at_most : total ≤ℤ pos (at_least_zero value + pages)
  -- and at least the number less so many pages, where the number isn't 0
  pub at_least : at_least_zero value ≢ 0 → pos (at_least_zero value) ≤ℤ (total +ℤ pos pages)
