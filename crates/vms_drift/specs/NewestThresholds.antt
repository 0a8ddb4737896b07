-- How far a zone's counters may be from the truth by the thresholds that stand.
use Rattle.std.specs.Prelude.{◌≡◌, ◌≢◌, ℕ, ◌+◌, ◌≤◌, max, if◌then◌else◌, Some}
use Rattle.vms_base.specs.Thresholds.{pressure_threshold_of}
use Rattle.vms_calls.specs.Common.{Dead, Facts, History, IsCounter, IsCpu, IsZone, Online, Shape, State}
use Rattle.vms_calls.specs.Common.{acknowledged_at, count_below, cpu_at, gap_of, is_online, place_of, size_at}
use Rattle.vms_calls.specs.Common.{state_after, threshold_at, threshold_sets_at, true_total, value_at}
use Rattle.vms_core.specs.Drift.{carried_sizes}
use Rattle.vms_drift.specs.Nearness.{IsNear}

-- no CPU is dead, and each that is online acknowledged the threshold of zone g that was set last
pub record KnowsNewest (shape : Shape) (s : State) (g : ℕ) : Type 0 where
  pub none_dead : (c : ℕ) → IsCpu shape c → cpu_at s c ≢ Dead
  pub acknowledged : (c : ℕ) → IsCpu shape c → cpu_at s c ≡ Online →
      acknowledged_at s c g ≡ Some (threshold_sets_at s c g)

-- how many CPUs are online
abbrev pub online_cpus : Shape → State → ℕ
online_cpus shape s = count_below (λ c. if is_online (cpu_at s c) then 1 else 0) shape.cpus

-- the thresholds of the CPUs that are online in zone g together
abbrev pub online_thresholds : Shape → State → ℕ → ℕ
online_thresholds shape s g = count_below (λ c. if is_online (cpu_at s c) then threshold_at s c g else 0) shape.cpus

-- the global value of a zone's counter is near its true total by the thresholds that stand in the zone
abbrev pub NewestBoundDrift : Facts → History → Type 0
NewestBoundDrift facts h = (k : ℕ) → IsCounter facts.layout k → IsZone facts.layout (place_of facts.layout k) →
    KnowsNewest facts.layout (state_after facts h) (place_of facts.layout k) →
    IsNear (value_at (state_after facts h) k) (true_total facts h k)
    (online_thresholds facts.layout (state_after facts h) (place_of facts.layout k) + carried_sizes h k)

-- no threshold of zone g is larger than the one for pressure where so many CPUs are online
abbrev pub HasPressure : Facts → State → ℕ → Type 0
HasPressure facts s g = (c : ℕ) → IsCpu facts.layout c → cpu_at s c ≡ Online →
    threshold_at s c g ≤ pressure_threshold_of (size_at facts.sizes g) (online_cpus facts.layout s)

-- then that is by the pages between `min` and `low` of the zone, or by a page for each CPU that is online where these
-- are more
abbrev pub PressureBoundsDrift : Facts → History → Type 0
PressureBoundsDrift facts h = (k : ℕ) → IsCounter facts.layout k → IsZone facts.layout (place_of facts.layout k) →
    KnowsNewest facts.layout (state_after facts h) (place_of facts.layout k) →
    HasPressure facts (state_after facts h) (place_of facts.layout k) →
    IsNear (value_at (state_after facts h) k) (true_total facts h k)
    (max (gap_of (size_at facts.sizes (place_of facts.layout k))) (online_cpus facts.layout (state_after facts h))
    + carried_sizes h k)
