-- Rules of thresholds that are functions.
use Rattle.std.specs.Prelude.{◌≡◌, ℕ, ◌≤◌}
use Rattle.vms_world.specs.Common.{IsValidSize, ZoneSize}

-- asked twice for a valid size and 1 to 128 online CPUs, a rule answers the same
abbrev pub AnswersOnce : (ZoneSize → ℕ → ℕ → Type 0) → Type 0
AnswersOnce answers = (size : ZoneSize) (online t t' : ℕ) → IsValidSize size → 1 ≤ online → online ≤ 128 →
    answers size online t → answers size online t' → t ≡ t'
