-- How far the numbers of a machine may be from the truth, by the CPUs that are present.
use Rattle.std.specs.Prelude.{ℕ, ◌+◌, ◌*◌, length, nat_lt, if◌then◌else◌}
use Rattle.vms_base.specs.Cpus.{is_present}
use Rattle.vms_calls.specs.Common.{Facts, History, IsCounter, IsItem, Shape, State, count_below, cpu_at, most_threshold}
use Rattle.vms_calls.specs.Common.{state_after, system_at, true_total, value_at}
use Rattle.vms_core.specs.Drift.{carried_of_item_sizes, carried_sizes}
use Rattle.vms_core.specs.Totals.{true_total_of_item}
use Rattle.vms_drift.specs.Nearness.{IsNear}

-- how many CPUs are online or dead
abbrev pub present_cpus : Shape → State → ℕ
present_cpus shape s = count_below (λ c. if is_present (cpu_at s c) then 1 else 0) shape.cpus

-- what the CPUs that are present may hide of one counter together: 125 pages each
abbrev pub most_hidden : Shape → State → ℕ
most_hidden shape s = present_cpus shape s * most_threshold

-- how many counters an item has: one for each zone, or one for each node
abbrev pub parts_of : Shape → ℕ → ℕ
parts_of shape i = if nat_lt i shape.positions then length shape.zones else length shape.nodes

-- the global value of each counter is near its true total
abbrev pub CountersAreNear : Facts → History → Type 0
CountersAreNear facts h = (k : ℕ) → IsCounter facts.layout k →
    IsNear (value_at (state_after facts h) k) (true_total facts h k)
    (most_hidden facts.layout (state_after facts h) + carried_sizes h k)

-- the system-wide value of each item is near its true total
abbrev pub ItemsAreNear : Facts → History → Type 0
ItemsAreNear facts h = (i : ℕ) → IsItem facts.layout i →
    IsNear (system_at (state_after facts h) i) (true_total_of_item facts h i)
    (parts_of facts.layout i * most_hidden facts.layout (state_after facts h)
    + carried_of_item_sizes facts.layout h i)
