-- Rules of thresholds, compared where they are asked.
use Rattle.std.specs.Prelude.{ℕ, ◌≤◌}
use Rattle.vms_world.specs.Common.{IsValidSize, ZoneSize}

-- asked for a valid size and 1 to 128 online CPUs, a rule allows each answer of another
abbrev pub Allows : (rule other : ZoneSize → ℕ → ℕ → Type 0) → Type 0
Allows rule other = (size : ZoneSize) (online t : ℕ) → IsValidSize size → 1 ≤ online → online ≤ 128
    → other size online t → rule size online t
