use Rattle.std.proofs.Common.{rules}
use Rattle.vms_base.proofs.Zones.{node_place-at, node_place-known}
use Rattle.vms_base.proofs.places.Layout.node.Goals as goal

pub returns-clause-known : goal.returns-clause-known
returns-clause-known c = node_place-known c.args.self.now c.args.number c.map.result (search rules)

pub returns-clause-place : goal.returns-clause-place
returns-clause-place c = node_place-at c.args.self.now c.args.number c.map.result (search rules)
