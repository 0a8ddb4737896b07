-- What stands at a moment of a story, and how far the free pages of the first zone are from the truth then.
use Rattle.std.specs.Prelude.{◌≡◌, ℕ, ◌+◌, ℤ, pos, ◌+ℤ◌, ◌-ℤ◌, unsigned_abs, List, Some}
use Rattle.vms_calls.specs.Common.{Facts, History, Look, acknowledged_at, carried_by_all, hidden, negative_carried}
use Rattle.vms_calls.specs.Common.{state_after, system_at, threshold_sets_at, true_total, value_at}
use Rattle.vms_core.specs.Drift.{carried_sizes}
use Rattle.vms_core.specs.Totals.{true_total_of_item}
use Rattle.vms_look.specs.Common.{positive_carried, slack_at}
use Rattle.vms_near.specs.Snapshots.{hidden_by_dead}

-- their value and their true total, the slack of the zone and the sizes of what is carried for them
pub record Stands (facts : Facts) (h : History) (value total : ℤ) (slack carried : ℕ) : Type 0 where
  pub value_is : value_at (state_after facts h) 0 ≡ value
  pub total_is : true_total facts h 0 ≡ total
  pub slack_is : slack_at facts h 0 ≡ slack
  pub carried_is : carried_sizes h 0 ≡ carried

-- a test that tells so many free pages has as many more in truth as its two bounds allow, or as many less
abbrev pub HasMost : Facts → History → (told : ℕ) → Type 0
HasMost facts h told = true_total facts h 0 ≡ pos (told + slack_at facts h 0 + positive_carried h 0)

abbrev pub HasLeast : Facts → History → (told : ℕ) → Type 0
HasLeast facts h told = pos told ≡ true_total facts h 0 +ℤ pos (slack_at facts h 0 + negative_carried h 0)

-- how far a snapshot that loads `value` at a moment, and finds so much on the CPUs, is from the truth
abbrev pub snapshot_error : Facts → History → (value : ℤ) → List Look → ℕ
snapshot_error facts h value looks = unsigned_abs (((value +ℤ hidden 0 looks)
    +ℤ (carried_by_all h 0 +ℤ hidden_by_dead facts.layout (state_after facts h) 0)) -ℤ true_total facts h 0)

-- the system-wide free pages and their true total
pub record StandsInAll (facts : Facts) (h : History) (value total : ℤ) : Type 0 where
  pub value_is : system_at (state_after facts h) 0 ≡ value
  pub total_is : true_total_of_item facts h 0 ≡ total

-- CPU c acknowledged the threshold of the first zone that was set last
abbrev pub Acknowledged : Facts → History → (c : ℕ) → Type 0
Acknowledged facts h c =
    acknowledged_at (state_after facts h) c 0 ≡ Some (threshold_sets_at (state_after facts h) c 0)
