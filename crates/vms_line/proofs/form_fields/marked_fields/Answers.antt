use Rattle.std.proofs.Common.{ok_or, ◌∙◌, refl, sym, ap, arith, get_or, []}
use Rattle.std.proofs.lemmas.Result.{err_from_is_err_and}
use Rattle.vms_line.specs.declared.causes.LineCause.TheVariants.{Malformed}
use Rattle.vms_line.specs.Common.{mark_named, zone_field, marked_fields}
use Rattle.vms_line.proofs.FieldCounts.{and_then-err, and_then-ok, four_words, below_four}
use Rattle.vms_line.proofs.form_fields.marked_fields.Goals as goal

pub returns-in_default : goal.returns-in_default
returns-in_default c =
    sym (below_four (marked_fields c.args.header.now) refl (λ a. refl) (λ a b. refl) (λ a b c. refl) c.args.fields.now
    (omega arith))

pub returns-in_err-zone : goal.returns-in_err-zone
returns-in_err-zone c =
    let header = c.args.header.now in
    let p = err_from_is_err_and c.from_residual-in_err-zone.result c.from_residual-in_err-zone.ensures.1 in
    let shape = four_words c.args.fields.now (record { ref_ptr = (0, 0); now = [] }) (omega arith) in
    let mark =
    and_then-ok (ok_or (mark_named (get_or c.args.fields.now 2 (record { ref_ptr = (0, 0); now = [] })).now) Malformed)
    _ c.in_ok-mark.mark
    (ap (λ found. ok_or found Malformed) (sym c.mark_named.ensures) ∙ sym c.ok_or.ensures.value ∙ c.in_ok-mark.was) in
    let failed =
    and_then-err (zone_field header (get_or c.args.fields.now 0 (record { ref_ptr = (0, 0); now = [] })).now
    (get_or c.args.fields.now 1 (record { ref_ptr = (0, 0); now = [] })).now) _ c.in_err-zone.field-0.0
    (sym c.zone_field.ensures ∙ c.in_err-zone.was) in
    rw (p.1, p.2) (sym (ap (marked_fields header) shape ∙ mark ∙ failed))
