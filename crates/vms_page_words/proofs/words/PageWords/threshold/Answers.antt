-- The cell of a place by the layout is that by the lists.
use Rattle.std.proofs.Common.{sym, ap, ◌∙◌, slice_index_or}
use Rattle.vms_page_words.specs.Words.{state_of}
use Rattle.vms_page_words.proofs.StateCells.{cell-place}
use Rattle.vms_page_words.proofs.words.PageWords.threshold.Goals as goal

pub returns : goal.returns
returns c =
    sym (c.get.ensures 0)
    ∙ ap (λ n. slice_index_or c.args.self.now.threshold n 0)
    (c.place_cell.ensures.value
    ∙ cell-place c.args.facts.now.layout (state_of c.args.self.now) c.place_cell.ensures.is_layout c.requires.shaped
    c.args.cpu.number c.args.place.number)
