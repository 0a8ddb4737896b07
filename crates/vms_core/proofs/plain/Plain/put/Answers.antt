use Rattle.std.proofs.Common.{arith}
use Rattle.vms_core.proofs.PlainData.{diff_cell}
use Rattle.vms_core.proofs.plain.Plain.put.Goals as goal

pub cell-at-requires : goal.cell-at-requires
cell-at-requires c =
    omega (
      arith,
      diff_cell c.self.inside.state _ _ c.self.invariant c.args.cpu.number c.args.counter.number
          (rw c.self.view_is c.requires.cpu) (rw c.self.view_is c.requires.counter),
    )

pub write_diff-requires-clause-within : goal.write_diff-requires-clause-within
write_diff-requires-clause-within c =
    rw (c.cell-at.ensures, ← c.self.view_is)
    (diff_cell c.self.inside.state _ _ c.self.invariant c.args.cpu.number c.args.counter.number
    (rw c.self.view_is c.requires.cpu) (rw c.self.view_is c.requires.counter))
