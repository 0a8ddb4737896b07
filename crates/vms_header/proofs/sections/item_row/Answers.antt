-- An error of the words is the error of the line.
use Rattle.std.proofs.Common.{Err, map, subst, sym}
use Rattle.std.proofs.lemmas.Result.{err_from_is_err_and}
use Rattle.vms_header.specs.Common.{draft_with_item, read_item, draft_of, IsSameRead}
use Rattle.vms_header.proofs.RowsByValues.{item_row-read}
use Rattle.vms_header.proofs.RefusedReads.{IsSameRead-refused}
use Rattle.vms_header.proofs.sections.item_row.Goals as goal

pub returns-in_err-item : goal.returns-in_err-item
returns-in_err-item c =
    let p = err_from_is_err_and c.from_residual.result c.from_residual.ensures.1 in
    let words = map (λ field. field.now) c.args.fields.now in
    let draft = draft_of c.args.draft in
    let error = c.in_err-item.field-0.0 in
    let refused = IsSameRead-refused (λ item. item) draft_of (read_item words)
    (draft_with_item draft) error c.in_err-item.ensures in
    rw (p.1, p.2) (subst (λ answer. IsSameRead draft_of answer (Err error)) (sym (item_row-read draft words)) refused)
