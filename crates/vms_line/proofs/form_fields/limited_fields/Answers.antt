use Rattle.std.proofs.Common.{Ok, ◌∙◌, refl, sym, arith}
use Rattle.std.proofs.lemmas.Result.{err_from_is_err_and}
use Rattle.vms_text.specs.Common.{and_then}
use Rattle.vms_line.specs.Common.{amount_field, limit_field, pcpu_field, limited_fields}
use Rattle.vms_line.proofs.FieldCounts.{first-fails, second-fails}
use Rattle.vms_line.proofs.form_fields.limited_fields.Goals as goal

pub returns-in_err-counter : goal.returns-in_err-counter
returns-in_err-counter c =
    let p = err_from_is_err_and c.from_residual.result c.from_residual.ensures.1 in
    rw (p.1, p.2) (first-fails (limited_fields c.args.header.now) (pcpu_field c.args.header.now) limit_field
    (λ amount counter limit. and_then (amount_field amount) (λ amount. Ok (counter, limit, amount)))
    (λ a b c. refl) c.args.fields.now (omega arith) c.in_err-counter.field-0.0
    (sym c.pcpu_field.ensures ∙ c.in_err-counter.was))

pub returns-in_err-limit : goal.returns-in_err-limit
returns-in_err-limit c =
    let p = err_from_is_err_and c.from_residual-in_err-limit.result c.from_residual-in_err-limit.ensures.1 in
    rw (p.1, p.2) (second-fails (limited_fields c.args.header.now) (pcpu_field c.args.header.now) limit_field
    (λ amount counter limit. and_then (amount_field amount) (λ amount. Ok (counter, limit, amount)))
    (λ a b c. refl) c.args.fields.now (omega arith) c.in_err-limit.field-0.0 c.in_ok-counter.counter
    (sym c.pcpu_field.ensures ∙ c.in_ok-counter.was) (sym c.limit_field.ensures ∙ c.in_err-limit.was))
