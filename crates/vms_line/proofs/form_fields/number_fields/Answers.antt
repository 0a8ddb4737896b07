use Rattle.std.proofs.Common.{◌∙◌, sym, ap, arith, get_or, []}
use Rattle.std.proofs.lemmas.Result.{err_from_is_err_and}
use Rattle.vms_line.specs.Common.{pcpu_field, number_fields}
use Rattle.vms_line.proofs.FieldCounts.{and_then-err, two_words}
use Rattle.vms_line.proofs.form_fields.number_fields.Goals as goal

pub returns-in_err-counter : goal.returns-in_err-counter
returns-in_err-counter c =
    let p = err_from_is_err_and c.from_residual.result c.from_residual.ensures.1 in
    let words = two_words c.args.fields.now (record { ref_ptr = (0, 0); now = [] }) (omega arith) in
    let failed =
    and_then-err (pcpu_field c.args.header.now (get_or c.args.fields.now 0 (record { ref_ptr = (0, 0); now = [] })).now)
    _
    c.in_err-counter.field-0.0 (sym c.pcpu_field.ensures ∙ c.in_err-counter.was) in
    rw (p.1, p.2) (sym (ap (number_fields c.args.header.now) words ∙ failed))
