use Rattle.std.proofs.Common.{arith, length, ◌<◌}
use Rattle.vms_core.proofs.PlainData.{zone_cell}
use Rattle.vms_core.proofs.plain.Plain.acknowledge.Goals as goal

pub set-requires : goal.set-requires
set-requires c =
    let within : c.cell-at.result < length c.self.inside.state.acknowledged = rw (c.cell-at.ensures, c.len.ensures.len)
    (zone_cell c.self.inside.state _ _ c.self.invariant c.args.cpu.number c.args.zone.number
    (rw c.self.view_is c.requires.cpu) (rw c.self.view_is c.requires.zone)) in
    omega arith
