-- The line is what its words say, and then the judgement of the marks.
use Rattle.std.proofs.Common.{◌∙◌, ap, map, sym}
use Rattle.std.proofs.lemmas.Result.{err_from_is_err_and}
use Rattle.vms_header.specs.Common.{rising, draft_of}
use Rattle.vms_text.specs.Common.{and_then}
use Rattle.vms_header.proofs.RowsByValues.{zone_row-read}
use Rattle.vms_header.proofs.sections.zone_row.Goals as goal

pub returns-in_err-zone : goal.returns-in_err-zone
returns-in_err-zone c =
    let p = err_from_is_err_and c.from_residual.result c.from_residual.ensures.1 in
    let words = map (λ field. field.now) c.args.fields.now in
    rw (p.1, p.2) (zone_row-read (draft_of c.args.draft) words
    ∙ ap (λ read. and_then read (rising (draft_of c.args.draft))) (sym c.zone_words.ensures ∙ c.in_err-zone.was))

pub returns : goal.returns
returns c =
    let words = map (λ field. field.now) c.args.fields.now in
    let read = zone_row-read (draft_of c.args.draft) words ∙ ap (λ read. and_then read (rising (draft_of c.args.draft)))
    (sym c.zone_words.ensures ∙ c.in_ok-zone.was) in
    rw read c.rising.ensures
