-- The goal was that the cell stands in the row.
use Rattle.std.proofs.Common.{◌+◌, length, ap, ◌∙◌, arith}
use Rattle.vms_calls.specs.Common.{cell, place_count}
use Rattle.vms_base.proofs.Common.{cell-lt}
use Rattle.vms_words.proofs.KeptSettings.{zone-place}
use Rattle.vms_words.proofs.kept.Settings.keep_found.Goals as goal

pub get-threshold-requires : goal.get-threshold-requires
get-threshold-requires c =
    let shape = c.args.layout.now in
    let at = c.cell_from-at.ensures
    ∙ ap (λ width. 0 + cell width c.args.cpu.number c.args.zone.number) c.places.ensures.value in
    let place = zone-place (length shape.zones) (length shape.nodes) c.args.zone.number c.requires.zone in
    omega (
      arith,
      at,
      c.requires.kept.thresholds,
      cell-lt (place_count shape) shape.cpus c.args.cpu.number c.args.zone.number c.requires.cpu place,
    )
