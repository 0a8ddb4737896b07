-- How far a counter of a zone may be off by what the zone's mark covers.
use Rattle.std.specs.Prelude.{◌≢◌, ℕ, suc, ◌+◌, ◌-◌, ◌==◌, ◌≤◌, ◌+ℤ◌, ◌-ℤ◌, ◌≤ℤ◌, pos, if◌then◌else◌, unsigned_abs}
use Rattle.vms_calls.specs.Common.{Facts, History, IsCounter, IsZone, ZoneSize, at_least_zero, begun_in, carried}
use Rattle.vms_calls.specs.Common.{count_below, gap_of, mark_at, negative_carried, own, place_of, role, size_at}
use Rattle.vms_calls.specs.Common.{state_after, true_total, value_at}
use Rattle.vms_core.specs.Drift.{carried_sizes}

-- the pages that the CPUs may hide of each counter of a zone: those between `min` and `low` where the zone has no mark,
-- and those by which its mark exceeds `high` where it has one
abbrev pub slack_of : ZoneSize → (mark : ℕ) → ℕ
slack_of size mark = if mark == 0 then gap_of size else mark - size.high

-- the slack of a zone at a moment, under the mark that stands then
abbrev pub slack_at : Facts → History → (g : ℕ) → ℕ
slack_at facts h g = slack_of (size_at facts.sizes g) (mark_at (state_after facts h) g)

-- the positive amounts that the callers carry for counter k together
abbrev pub positive_carried : History → ℕ → ℕ
positive_carried h k = count_below (λ p. at_least_zero (carried k (own h p))) (suc (begun_in role h))

-- so many pages of counter k were told. Where they aren't 0 the true total is at least as many, less `hidden` and less
-- the negative amounts that callers carry. It is at most as many, with `hidden` and the positive amounts
pub record IsTold (facts : Facts) (h : History) (k told hidden : ℕ) : Type 0 where
  pub least : told ≢ 0 → pos told ≤ℤ (true_total facts h k +ℤ pos (hidden + negative_carried h k))
  pub most : true_total facts h k ≤ℤ pos (told + hidden + positive_carried h k)

-- the value of each counter of a zone tells its true total, but for the slack of the zone
abbrev pub ValuesTell : Facts → History → Type 0
ValuesTell facts h = (k : ℕ) → IsCounter facts.layout k → IsZone facts.layout (place_of facts.layout k) →
    IsTold facts h k (at_least_zero (value_at (state_after facts h) k)) (slack_at facts h (place_of facts.layout k))

-- the global value of each counter of a zone is off by at most the slack of the zone and the sizes of what is carried
-- for the counter
abbrev pub BoundsByMarks : Facts → History → Type 0
BoundsByMarks facts h = (k : ℕ) → IsCounter facts.layout k → IsZone facts.layout (place_of facts.layout k) →
    unsigned_abs (value_at (state_after facts h) k -ℤ true_total facts h k)
    ≤ slack_at facts h (place_of facts.layout k) + carried_sizes h k
