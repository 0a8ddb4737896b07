-- An error of the words is the error of the line.
use Rattle.std.proofs.Common.{◌∙◌, ap, map, sym}
use Rattle.std.proofs.lemmas.Result.{err_from_is_err_and}
use Rattle.vms_header.specs.Common.{with_new_zone, draft_of}
use Rattle.vms_text.specs.Common.{and_then}
use Rattle.vms_header.proofs.RowsByValues.{unmarked_zone_row-read}
use Rattle.vms_header.proofs.sections.unmarked_zone_row.Goals as goal

pub returns-in_err-zone : goal.returns-in_err-zone
returns-in_err-zone c =
    let p = err_from_is_err_and c.from_residual.result c.from_residual.ensures.1 in
    let words = map (λ field. field.now) c.args.fields.now in
    rw (p.1, p.2) (unmarked_zone_row-read (draft_of c.args.draft) words
    ∙ ap (λ read. and_then read (with_new_zone (draft_of c.args.draft))) (sym c.unmarked_zone_words.ensures
    ∙ c.in_err-zone.was))
