use Rattle.std.proofs.Common.{rules}
use Rattle.vms_base.proofs.Zones.{zone_place-at, zone_place-known}
use Rattle.vms_base.proofs.places.Layout.zone.Goals as goal

pub returns-clause-known : goal.returns-clause-known
returns-clause-known c = zone_place-known c.args.self.now c.args.name c.map.result (search rules)

pub returns-clause-place : goal.returns-clause-place
returns-clause-place c = zone_place-at c.args.self.now c.args.name c.map.result (search rules)
