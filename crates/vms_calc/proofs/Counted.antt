-- What one zone adds to the managed pages above another.
use Rattle.std.specs.Prelude.{ℕ, ◌==◌, ◌&&◌, nat_lt, nat_le, if◌then◌else◌}
use Rattle.vms_base.specs.declared.kinds.ZoneName.{ZoneName}
use Rattle.vms_base.specs.declared.kinds.ZoneSize.{ZoneSize}
use Rattle.vms_base.specs.Common.{zone_index}

-- the pages of a zone of this node above one zone index and up to another, and 0 of every other zone
abbrev pub counted : ℕ → ℕ → ℕ → ZoneName × ZoneSize → ℕ
counted node above most (zone, size) =
    if (zone.node == node) && nat_lt above (zone_index zone.kind) && nat_le (zone_index zone.kind) most
    then size.managed else 0
