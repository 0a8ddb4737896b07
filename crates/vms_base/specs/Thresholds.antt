-- How large a differential may grow, as mm/vmstat.c computes it.
use Rattle.std.specs.Prelude.{ℕ, ◌+◌, ◌*◌, ◌/◌, ◌^◌, ◌≤◌, min, max}
use Rattle.vms_base.specs.declared.kinds.ZoneSize.{ZoneSize}
use Rattle.vms_base.specs.Numbers.{bits_of}
use Rattle.vms_base.specs.Sizes.{IsValidSize, gap_of}

-- the largest threshold, so that a differential fits a signed byte
abbrev pub most_threshold : ℕ
most_threshold = 125

-- `calculate_normal_threshold`: it grows with the digits of the number of CPUs and of the zone's blocks of 128 MiB
abbrev pub normal_threshold_of : ZoneSize → ℕ → ℕ
normal_threshold_of size online = min most_threshold (2 * bits_of online * (1 + bits_of (size.managed / 2 ^ 15)))

-- `calculate_pressure_threshold`: the CPUs together may hide no more than the pages between `min` and `low`
abbrev pub pressure_threshold_of : ZoneSize → ℕ → ℕ
pressure_threshold_of size online = min most_threshold (max 1 (gap_of size / online))

-- what a rule answers for a size and a number of online CPUs: a relation, since a rule may answer differently when it
-- is
-- asked twice. Its answers are thresholds for every valid size and 1 to 128 CPUs
abbrev pub GivesThresholds : (ZoneSize → ℕ → ℕ → Type 0) → Type 0
GivesThresholds answers = (size : ZoneSize) (online t : ℕ) → IsValidSize size → 1 ≤ online → online ≤ 128 →
    answers size online t → (1 ≤ t) × (t ≤ most_threshold)
