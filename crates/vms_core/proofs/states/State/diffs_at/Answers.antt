-- the cells of a group stand within the list
use Rattle.std.proofs.Common.{◌*◌, ◌∙◌, ap, sym}
use Rattle.vms_history.specs.Common.{cell}
use Rattle.vms_core.proofs.CellLemmas.{AreBytes-cells, TellsGroup-cells}
use Rattle.vms_core.proofs.Effects.{group-cells}
use Rattle.vms_core.proofs.states.State.diffs_at.Goals as goal

pub eight_from-requires : goal.eight_from-requires
eight_from-requires c =
    let group = group-cells c.args.layout.now c.args.self.now c.requires.shaped c.args.cpu.number c.args.group.number
    c.requires.cpu c.requires.group in
    rw (
      c.as_slice.ensures,
      c.cell-at.ensures
          ∙ ap (λ w. cell w c.args.cpu.number (8 * c.args.group.number))
          (c.counters-width.ensures.value ∙ sym c.requires.shaped.place),
    )
    group

pub invariant_of-result : goal.invariant_of-result
invariant_of-result c = record {
  bytes = rw (c.eight_from.ensures, c.as_slice.ensures)
      (AreBytes-cells c.args.self.now.diff c.cell-at.result c.requires.bytes);
}

pub returns : goal.returns
returns c =
    let group = group-cells c.args.layout.now c.args.self.now c.requires.shaped c.args.cpu.number c.args.group.number
    c.requires.cpu c.requires.group in
    rw (
      c.eight_from.ensures,
      c.as_slice.ensures,
      c.cell-at.ensures
          ∙ ap (λ w. cell w c.args.cpu.number (8 * c.args.group.number))
          (c.counters-width.ensures.value ∙ sym c.requires.shaped.place),
    )
    (TellsGroup-cells c.args.self.now c.args.cpu.number c.args.group.number group)
