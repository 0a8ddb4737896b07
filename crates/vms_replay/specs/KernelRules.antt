-- The kernel's rules of thresholds, by which a replay goes.
use Rattle.std.specs.Prelude.{◌≡◌, ℕ, ◌≤◌, List, map}
use Rattle.vms_world.specs.Common.{Header, ZoneSize, IsValidSize, normal_threshold_of, pressure_threshold_of}

-- what a rule answers for a size and a number of CPUs, if it goes by a formula. Past valid sizes and 128 CPUs it may
-- answer anything
abbrev pub ByFormula : (ZoneSize → ℕ → ℕ) → ZoneSize → ℕ → ℕ → Type 0
ByFormula formula size online t = IsValidSize size → 1 ≤ online → online ≤ 128 → t ≡ formula size online

-- `calculate_normal_threshold` of mm/vmstat.c
abbrev pub normal_rule : ZoneSize → ℕ → ℕ → Type 0
normal_rule = ByFormula normal_threshold_of

-- `calculate_pressure_threshold` of mm/vmstat.c
abbrev pub pressure_rule : ZoneSize → ℕ → ℕ → Type 0
pressure_rule = ByFormula pressure_threshold_of

-- a rule that answers by a formula
abbrev pub GoesBy : (ZoneSize → ℕ → ℕ) → (ZoneSize → ℕ → ℕ → Type 0) → Type 0
GoesBy formula answers = (size : ZoneSize) (online t : ℕ) → IsValidSize size → 1 ≤ online → online ≤ 128 →
    answers size online t → t ≡ formula size online

-- the normal thresholds of the zones where so many CPUs are online
abbrev pub normal_zones : Header → ℕ → List ℕ
normal_zones header online = map (λ size. normal_threshold_of size online) header.sizes
