-- What the zone that was found keeps back is the reserve of its place.
use Rattle.std.proofs.Common.{◌≡◌, ◌≤◌, ◌/◌}
use Rattle.vms_base.specs.declared.kinds.ZoneKind.TheVariants.{Dma}
use Rattle.std.proofs.Math.Nat.{zero-div}
use Rattle.vms_base.specs.Common.{zone_index}
use Rattle.vms_calc.proofs.FoundZones.{reserve_of-found, zone_at-found}
use Rattle.vms_calc.proofs.reserves.reserve.Goals as goal

pub returns-clause-value : goal.returns-clause-value
returns-clause-value c =
    reserve_of-found c.args.header.now.layout c.args.zone.number (record { node = 0; kind = Dma }) c.requires.zone
    c.args.header.now.sizes c.args.highest c.pages_between.result c.ratio_of-ratio.result
    (rw c.zones.ensures.value at c.ratio_of-ratio.ensures)
    c.if-ratio-eq0.false
    (rw (c.zones.ensures.value, c.as_slice.ensures) at c.pages_between.ensures.value)

pub returns-clause-lower : goal.returns-clause-lower
returns-clause-lower c =
    zone_at-found c.args.header.now.layout c.args.zone.number (record { node = 0; kind = Dma }) c.requires.zone
    (λ name. c.args.highest ≤ zone_index name.kind → c.pages_between.result / c.ratio_of-ratio.result ≡ 0)
    (λ below.
    let none = rw c.zones.ensures.value at c.pages_between.ensures.none in
    rw (none below) (zero-div _))
