-- The reserve of the zone that was found.
use Rattle.std.proofs.Common.{◌≡◌, ℕ, ◌<◌, ◌/◌, List, length, get_or, arith}
use Rattle.std.specs.Prelude.{IfSome}
use Rattle.std.proofs.lemmas.Bool.Decides.{nat_tests}
use Rattle.std.proofs.lemmas.Option.{slice_get-get_or}
use Rattle.vms_base.specs.declared.kinds.ZoneName.{ZoneName}
use Rattle.vms_base.specs.declared.kinds.ZoneSize.{ZoneSize}
use Rattle.vms_base.specs.Common.{Shape, zone_at, zone_index, reserve_ratio, managed_between, reserve_of}

module _ (shape : Shape) (place : ℕ) (default : ZoneName) (within : place < length shape.zones) where
  abbrev found : ZoneName
  found = get_or shape.zones place default

  -- a zone with a ratio keeps back that part of the pages above it
  pub reserve_of-found : (sizes : List ZoneSize) (highest pages ratio : ℕ) →
      ratio ≡ reserve_ratio found.kind → (ratio ≡ 0 → ⊥) →
      pages ≡ managed_between shape sizes found.node (zone_index found.kind) highest →
      pages / ratio ≡ reserve_of shape sizes place highest
  reserve_of-found sizes highest pages ratio ratio_is some_ratio pages_is =
      rw (slice_get-get_or shape.zones place default within) (grind (arith, nat_tests))

  -- what is true of the zone that was found is true of the zone at the place
  pub zone_at-found : (P : ZoneName → Type 0) → P found → IfSome (zone_at shape place) P
  zone_at-found P of_found = rw (slice_get-get_or shape.zones place default within) of_found
