-- The goals were that the words of each row are there, and that what is read is the last state.
use Rattle.std.proofs.Common.{ap, sym, ◌∙◌, subst, arith}
use Rattle.vms_history.specs.Common.{IsLayout, Shape}
use Rattle.vms_event_core.specs.Common.{HasShape, state_after}
use Rattle.vms_event.proofs.OpeningWords.{row-within, words-fit, words-read}
use Rattle.vms_event.proofs.tables.write_words.Goals as goal

pub fill_rows-requires-clause-within : goal.fill_rows-requires-clause-within
fill_rows-requires-clause-within c =
    let closing = c.args.closing.now in
    let s = state_after closing.facts closing.events in
    row-within closing.facts s (subst IsLayout (sym c.requires.same) c.requires.layout)
    (subst (λ shape. HasShape shape s) (sym c.requires.same) c.requires.shaped) c.cpus-cpus.result c.width.result
    (c.cpus-cpus.ensures.value ∙ ap (λ (shape : Shape). shape.cpus) (sym c.requires.same)) c.width.ensures

pub fill_rows-requires-clause-fits : goal.fill_rows-requires-clause-fits
fill_rows-requires-clause-fits c =
    let closing = c.args.closing.now in
    let s = state_after closing.facts closing.events in
    let layout = c.requires.layout in (
      words-fit closing.facts s (subst IsLayout (sym c.requires.same) layout)
          (subst (λ shape. HasShape shape s) (sym c.requires.same) c.requires.shaped) c.cpus-cpus.result
          c.width.result (c.cpus-cpus.ensures.value ∙ ap (λ (shape : Shape). shape.cpus) (sym c.requires.same))
          c.width.ensures,
      omega (arith, c.requires.room, c.requires.shaped, layout.cpus_most),
    )

pub returns : goal.returns
returns c =
    let closing = c.args.closing.now in
    let s = state_after closing.facts closing.events in
    words-read closing.facts s (subst IsLayout (sym c.requires.same) c.requires.layout)
    (subst (λ shape. HasShape shape s) (sym c.requires.same) c.requires.shaped) c.cpus-cpus.result c.width.result
    (c.cpus-cpus.ensures.value ∙ ap (λ (shape : Shape). shape.cpus) (sym c.requires.same)) c.width.ensures
    c.fill_rows.new.table (c.fill_rows.ensures.len ∙ c.requires.room) c.fill_rows.ensures.each
