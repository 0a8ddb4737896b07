-- A zone's size and watermarks.
use Rattle.std.specs.Prelude.{ℕ, ◌≤◌, ◌^◌, ◌-◌, List, slice_index_or}
use Rattle.vms_base.specs.declared.kinds.WaterMark.{WaterMark}
use Rattle.vms_base.specs.declared.kinds.WaterMark.TheVariants.{Min, Low, High}
use Rattle.vms_base.specs.declared.kinds.ZoneSize.{ZoneSize}

-- a zone has managed pages, and its watermarks rise
pub record IsValidSize (size : ZoneSize) : Type 0 where
  pub managed_least : 1 ≤ size.managed
  pub managed_most : size.managed ≤ 2 ^ 40
  pub low_above_min : size.min ≤ size.low
  pub high_above_low : size.low ≤ size.high
  pub high_most : size.high ≤ 2 ^ 42

-- the pages between the two lower watermarks
abbrev pub gap_of : ZoneSize → ℕ
gap_of size = size.low - size.min

-- the size of a zone; past the zones there is an empty one
abbrev pub size_at : List ZoneSize → ℕ → ZoneSize
size_at sizes g = slice_index_or sizes g (record { managed = 0; min = 0; low = 0; high = 0 })

-- a watermark of a zone
abbrev pub watermark_of : ZoneSize → WaterMark → ℕ
watermark_of size Min = size.min
watermark_of size Low = size.low
watermark_of size High = size.high
