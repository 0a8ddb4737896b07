-- Drift marks: below a zone's mark a test of its watermarks takes the snapshot.
use Rattle.std.specs.Prelude.{◌≡◌, ℕ, ◌+◌, ◌*◌, ◌<◌, ◌≤◌, ◌==◌, ◌&&◌, nat_lt, nat_le, if◌then◌else◌, max}
use Rattle.vms_base.specs.declared.kinds.ZoneSize.{ZoneSize}
use Rattle.vms_base.specs.Sizes.{gap_of}

-- `refresh_zone_stat_thresholds`: a mark where the CPUs together may hide more than the pages between `min` and `low`
abbrev pub linux_mark_of : ZoneSize → ℕ → ℕ → ℕ
linux_mark_of size online threshold =
    if nat_lt (gap_of size) (online * threshold) then (size.high + online * threshold) else 0

-- a mark covers what CPUs hide: under mark 0 that is at most the pages between `min` and `low`, so a test of `low` that
-- takes the plain value keeps `min`; any other mark is at least `high` and what they hide
pub record Covers (size : ZoneSize) (mark hidden : ℕ) : Type 0 where
  pub unset : mark ≡ 0 → hidden ≤ gap_of size
  pub set : 0 < mark → size.high + hidden ≤ mark

-- Linux's mark, raised where that is needed to cover what CPUs hide
abbrev pub cover_mark_of : ZoneSize → ℕ → ℕ → ℕ
cover_mark_of size linux hidden =
    if (linux == 0) && nat_le hidden (gap_of size) then 0 else max linux (size.high + hidden)
