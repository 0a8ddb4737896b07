-- The cell of a place by the layout is that by the lists.
use Rattle.std.proofs.Common.{◌∙◌, refl}
use Rattle.vms_page_words.specs.Words.{state_of}
use Rattle.vms_page_words.proofs.StateCells.{cell-place}
use Rattle.vms_page_words.proofs.words.PageWords.set_threshold.Goals as goal

pub returns : goal.returns
returns c =
    let at = c.place_cell-at.ensures.value
    ∙ cell-place c.args.facts.now.layout (state_of c.args.self.now) c.place_cell-at.ensures.is_layout c.requires.shaped
    c.args.cpu.number c.args.place.number in
    rw (c.set.ensures, c.set-2.ensures, c.threshold_sets-number.ensures, at) refl
