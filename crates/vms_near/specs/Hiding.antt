-- What the CPUs may hide of a counter, and of an item.
use Rattle.std.specs.Prelude.{ℕ, ◌&&◌, Bool, length, nat_eq, nat_lt, if◌then◌else◌}
use Rattle.vms_calls.specs.Common.{Facts, History, acknowledged_at, count_below, counter_count, item_of, place_of, sets}
use Rattle.vms_calls.specs.Common.{state_after, threshold_in, cpu_in, if_present, is_number, peak}

-- CPU c acknowledged the threshold that was set last in place g. It acknowledges those of zones alone
abbrev pub knows_newest : Facts → History → (c g : ℕ) → Bool
knows_newest facts h c g = nat_lt g (length facts.layout.zones)
    && is_number (acknowledged_at (state_after facts h) c g) (sets c g h)

-- what CPU c may hide of each counter of place g: the threshold that stands, if it acknowledged that one, and else its
-- peak. A CPU that is absent hides nothing
abbrev pub may_hide : Facts → History → (c g : ℕ) → ℕ
may_hide facts h c g = if_present (cpu_in facts c h)
    (if knows_newest facts h c g then threshold_in facts c g h else peak facts c g h)

-- what all CPUs may hide of it together
abbrev pub all_may_hide : Facts → History → (g : ℕ) → ℕ
all_may_hide facts h g = count_below (λ c. may_hide facts h c g) facts.layout.cpus

-- what they may hide of an item: of each of its counters
abbrev pub item_may_hide : Facts → History → (i : ℕ) → ℕ
item_may_hide facts h i =
    count_below (λ k. if nat_eq (item_of facts.layout k) i then all_may_hide facts h (place_of facts.layout k) else 0)
    (counter_count facts.layout)
