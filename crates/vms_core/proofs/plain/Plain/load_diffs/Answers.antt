use Rattle.std.proofs.Common.{arith}
use Rattle.vms_core.proofs.PlainData.{diff_cells, AreBytes-part, TellsGroup-part}
use Rattle.vms_core.proofs.plain.Plain.load_diffs.Goals as goal

pub cell-at-requires : goal.cell-at-requires
cell-at-requires c =
    omega (
      arith,
      diff_cells c.self.inside.state _ _ c.self.invariant c.args.cpu.number c.args.group.number
          (rw c.self.view_is c.requires.cpu) (rw c.self.view_is c.requires.group),
    )

pub eight_from-requires : goal.eight_from-requires
eight_from-requires c =
    rw (c.as_slice.ensures, c.cell-at.ensures)
    (diff_cells c.self.inside.state _ _ c.self.invariant c.args.cpu.number c.args.group.number
    (rw c.self.view_is c.requires.cpu) (rw c.self.view_is c.requires.group))

pub invariant_of-result : goal.invariant_of-result
invariant_of-result c = record {
  bytes = rw (c.eight_from.ensures, c.as_slice.ensures)
      (AreBytes-part c.self.inside.state _ _ c.self.invariant c.cell-at.result);
}

pub returns : goal.returns
returns c = rw (c.eight_from.ensures, c.as_slice.ensures, c.cell-at.ensures, ← c.self.view_is)
    (TellsGroup-part c.self.inside.state _ _ c.self.invariant c.args.cpu.number c.args.group.number
    (rw c.self.view_is c.requires.cpu) (rw c.self.view_is c.requires.group))
