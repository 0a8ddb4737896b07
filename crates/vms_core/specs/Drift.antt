-- How far a global value is from the truth.
use Rattle.std.specs.Prelude.{ℕ, suc, ◌+◌, ◌≤◌, nat_eq, ℤ, pos, negsuc, ◌+ℤ◌, ◌-ℤ◌, ◌≤ℤ◌, if◌then◌else◌, unsigned_abs}
use Rattle.vms_history.specs.Common.{Shape, IsCounter, IsItem, item_of, counter_count, own, begun_in, count_below}
use Rattle.vms_core.specs.declared.steps.Facts.{Facts}
use Rattle.vms_core.specs.Cells.{value_at, system_at}
use Rattle.vms_core.specs.Own.{carried, carried_of_item}
use Rattle.vms_core.specs.Pages.{History, state_after}
use Rattle.vms_core.specs.Steps.{role}
use Rattle.vms_core.specs.Totals.{last_threshold, differentials, true_total, true_total_of_item}

-- the thresholds that the CPUs used last on counter k together
abbrev pub last_thresholds : Facts → History → ℕ → ℕ
last_thresholds facts h k = count_below (λ c. last_threshold facts h c k) facts.layout.cpus

-- the same over all counters of item i
abbrev pub last_thresholds_of_item : Facts → History → ℕ → ℕ
last_thresholds_of_item facts h i =
    count_below (λ k. if nat_eq (item_of facts.layout k) i then last_thresholds facts h k else 0)
    (counter_count facts.layout)

-- the sizes of what the callers carry for counter k together, and for item i
abbrev pub carried_sizes : History → ℕ → ℕ
carried_sizes h k = count_below (λ p. unsigned_abs (carried k (own h p))) (suc (begun_in role h))

abbrev pub carried_of_item_sizes : Shape → History → ℕ → ℕ
carried_of_item_sizes shape h i =
    count_below (λ p. unsigned_abs (carried_of_item shape i (own h p))) (suc (begun_in role h))

-- the size of a number that is below 0, and 0 of any other
abbrev pub size_below_zero : ℤ → ℕ
size_below_zero (pos n) = 0
size_below_zero (negsuc n) = suc n

-- the sizes of the negative amounts that the callers carry for counter k together
abbrev pub negative_carried : History → ℕ → ℕ
negative_carried h k = count_below (λ p. size_below_zero (carried k (own h p))) (suc (begun_in role h))

-- the global value of a counter and its differentials exceed the true total by at most these amounts
abbrev pub BoundsExcess : Facts → History → Type 0
BoundsExcess facts h = (k : ℕ) → IsCounter facts.layout k →
    (value_at (state_after facts h) k +ℤ differentials facts.layout (state_after facts h) k)
    ≤ℤ (true_total facts h k +ℤ pos (negative_carried h k))

-- the global value of a counter is off by no more than the thresholds that were used last and what is carried for it
abbrev pub BoundsDrift : Facts → History → Type 0
BoundsDrift facts h = (k : ℕ) → IsCounter facts.layout k →
    unsigned_abs (value_at (state_after facts h) k -ℤ true_total facts h k)
    ≤ last_thresholds facts h k + carried_sizes h k

-- the system-wide value of an item is off by no more than those of its counters and what is carried for the item
abbrev pub BoundsSystemDrift : Facts → History → Type 0
BoundsSystemDrift facts h = (i : ℕ) → IsItem facts.layout i →
    unsigned_abs (system_at (state_after facts h) i -ℤ true_total_of_item facts h i)
    ≤ last_thresholds_of_item facts h i + carried_of_item_sizes facts.layout h i
