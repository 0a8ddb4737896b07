-- A zone's watermarks and its lowmem reserve, as mm/page_alloc.c computes them.
use Rattle.std.specs.Prelude.{ℕ, ◌+◌, ◌*◌, ◌/◌, ◌==◌, ◌&&◌, nat_lt, nat_le, if◌then◌else◌, max, List, None, Some}
use Rattle.std.specs.Prelude.{Option, sum_by, zip, slice_get}
use Rattle.vms_base.specs.declared.kinds.ZoneKind.{ZoneKind}
use Rattle.vms_base.specs.declared.kinds.ZoneKind.TheVariants.{Dma, Dma32, Normal, Movable}
use Rattle.vms_base.specs.declared.kinds.ZoneName.{ZoneName}
use Rattle.vms_base.specs.declared.kinds.ZoneSize.{ZoneSize}
use Rattle.vms_base.specs.declared.kinds.WaterMark.{WaterMark}
use Rattle.vms_base.specs.declared.headers.Header.{Header}
use Rattle.vms_base.specs.Places.{Shape, zone_index}
use Rattle.vms_base.specs.Sizes.{size_at, watermark_of}

-- `__setup_per_zone_wmarks`: the zone's share of `kbytes` KiB is `min`, and the next marks stand one step above another
abbrev pub zone_marks_of : ℕ → ℕ → ℕ → ℕ → ZoneSize
zone_marks_of kbytes scale managed total =
    let lowest : ℕ = kbytes / 4 * managed / total in
    let step : ℕ = max (lowest / 4) (managed * scale / 10000) in
    record { managed = managed; min = lowest; low = lowest + step; high = lowest + step + step }

-- `sysctl_lowmem_reserve_ratio`: which part of the higher zones' pages a zone of this kind keeps back, where it does
abbrev pub reserve_ratio : ZoneKind → ℕ
reserve_ratio Dma = 256
reserve_ratio Dma32 = 256
reserve_ratio Normal = 32
reserve_ratio Movable = 0

-- the managed pages of a node's zones whose zone index is above one and at most another
abbrev pub managed_between : Shape → List ZoneSize → ℕ → ℕ → ℕ → ℕ
managed_between shape sizes node above most =
    sum_by (λ (zone, size).
    if (zone.node == node) && nat_lt above (zone_index zone.kind) && nat_le (zone_index zone.kind) most
    then size.managed else 0)
    (zip shape.zones sizes)

-- what a zone keeps back from a request that might use the zones up to an index
abbrev pub reserve_at : Shape → List ZoneSize → Option ZoneName → ℕ → ℕ
reserve_at shape sizes None most = 0
reserve_at shape sizes (Some zone) most =
    if reserve_ratio zone.kind == 0 then 0
    else (managed_between shape sizes zone.node (zone_index zone.kind) most / reserve_ratio zone.kind)

-- `setup_per_zone_lowmem_reserve`, of the zone at a place
abbrev pub reserve_of : Shape → List ZoneSize → ℕ → ℕ → ℕ
reserve_of shape sizes place most = reserve_at shape sizes (slice_get shape.zones place) most

-- what the free pages of a zone have to exceed, so that a test of a watermark passes for requests that may use the
-- zones
-- up to an index: the watermark and the zone's reserve against them
abbrev pub limit_of : Header → ℕ → WaterMark → ℕ → ℕ
limit_of header g mark most =
    watermark_of (size_at header.sizes g) mark + reserve_of header.layout header.sizes g most
