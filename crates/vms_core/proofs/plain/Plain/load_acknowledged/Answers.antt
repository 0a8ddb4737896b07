use Rattle.vms_core.proofs.PlainData.{zone_cell}
use Rattle.vms_core.proofs.plain.Plain.load_acknowledged.Goals as goal

pub get-requires : goal.get-requires
get-requires c = rw (c.cell-at.ensures, c.len.ensures.len)
    (zone_cell c.self.inside.state _ _ c.self.invariant c.args.cpu.number c.args.zone.number
    (rw c.self.view_is c.requires.cpu) (rw c.self.view_is c.requires.zone))
