-- The goal was that the cell stands in the row.
use Rattle.std.proofs.Common.{◌+◌, ap, ◌∙◌, arith}
use Rattle.vms_calls.specs.Common.{cell, place_count}
use Rattle.vms_base.proofs.Common.{cell-lt}
use Rattle.vms_words.proofs.kept.Settings.sets_at.Goals as goal

pub get-requires : goal.get-requires
get-requires c =
    let shape = c.args.layout.now in
    let at = c.cell_from-at.ensures
    ∙ ap (λ width. 0 + cell width c.args.cpu.number c.args.place.number) c.places.ensures.value in
    omega (
      arith,
      at,
      c.requires.kept.threshold_sets,
      cell-lt (place_count shape) shape.cpus c.args.cpu.number c.args.place.number c.requires.cpu c.requires.place,
    )
