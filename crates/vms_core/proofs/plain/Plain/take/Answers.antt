use Rattle.std.proofs.Common.{◌+◌, ◌≤◌, length, arith}
use Rattle.vms_core.proofs.PlainData.{diff_cells, IsPlain-take}
use Rattle.vms_core.proofs.plain.Plain.take.Goals as goal

pub cell-at-requires : goal.cell-at-requires
cell-at-requires c =
    omega (
      arith,
      diff_cells c.self.inside.state _ _ c.self.invariant c.args.cpu.number c.args.group.number
          (rw c.self.view_is c.requires.cpu) (rw c.self.view_is c.requires.group),
    )

pub zero_eight-requires-clause-within : goal.zero_eight-requires-clause-within
zero_eight-requires-clause-within c = rw c.cell-at.ensures
    (diff_cells c.self.inside.state _ _ c.self.invariant c.args.cpu.number c.args.group.number
    (rw c.self.view_is c.requires.cpu) (rw c.self.view_is c.requires.group))

pub invariant_of-self : goal.invariant_of-self
invariant_of-self c =
    let within : c.cell-at.result + 8 ≤ length c.self.inside.state.diff = rw c.cell-at.ensures
    (diff_cells c.self.inside.state _ _ c.self.invariant c.args.cpu.number c.args.group.number
    (rw c.self.view_is c.requires.cpu) (rw c.self.view_is c.requires.group)) in
    rw c.zero_eight.ensures (IsPlain-take c.self.inside.state _ _ c.self.invariant c.cell-at.result within)
