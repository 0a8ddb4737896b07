-- a cell stands within the list
use Rattle.std.proofs.Common.{◌≡◌, ◌∙◌, ap, sym, slice_index_or}
use Rattle.vms_history.specs.Common.{cell, place_count}
use Rattle.vms_base.proofs.Common.{cell-lt}
use Rattle.vms_core.specs.Common.{places_of}
use Rattle.vms_core.proofs.PlainData.{places_of-shaped}
use Rattle.vms_core.proofs.states.State.threshold_at.Goals as goal

pub get-requires : goal.get-requires
get-requires c =
    rw (
      c.cell-at.ensures ∙ ap (λ w. cell w c.args.cpu.number c.args.place.number) c.places.ensures.value,
      c.requires.shaped.threshold,
    )
    (cell-lt (place_count c.args.layout.now) c.args.layout.now.cpus c.args.cpu.number c.args.place.number
    c.requires.cpu c.requires.place)

pub get-requires-2 : goal.get-requires-2
get-requires-2 c =
    rw (
      c.cell-at.ensures ∙ ap (λ w. cell w c.args.cpu.number c.args.place.number) c.places.ensures.value,
      c.requires.shaped.threshold_sets,
    )
    (cell-lt (place_count c.args.layout.now) c.args.layout.now.cpus c.args.cpu.number c.args.place.number
    c.requires.cpu c.requires.place)

pub returns-clause-t : goal.returns-clause-t
returns-clause-t c =
    let width = places_of-shaped c.args.layout.now c.args.self.now c.places.ensures.is_layout c.requires.shaped in
    let at : c.cell-at.result ≡ cell (places_of c.args.self.now) c.args.cpu.number c.args.place.number =
    c.cell-at.ensures ∙ ap (λ w. cell w c.args.cpu.number c.args.place.number) (c.places.ensures.value ∙ sym width) in
    sym (c.get.ensures 0) ∙ ap (λ n. slice_index_or c.args.self.now.threshold n 0) at

pub returns-clause-number : goal.returns-clause-number
returns-clause-number c =
    let width = places_of-shaped c.args.layout.now c.args.self.now c.places.ensures.is_layout c.requires.shaped in
    let at : c.cell-at.result ≡ cell (places_of c.args.self.now) c.args.cpu.number c.args.place.number =
    c.cell-at.ensures ∙ ap (λ w. cell w c.args.cpu.number c.args.place.number) (c.places.ensures.value ∙ sym width) in
    sym (c.get-2.ensures 0) ∙ ap (λ n. slice_index_or c.args.self.now.threshold_sets n 0) at
