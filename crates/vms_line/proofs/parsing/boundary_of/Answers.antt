use Rattle.std.proofs.Common.{ap, arith, codes, sym, ◌∙◌}
use Rattle.std.proofs.lemmas.Result.{err_from_is_err_and}
use Rattle.std.proofs.lemmas.Slice.Eq.{text_from_reads}
use Rattle.vms_line.specs.Common.{boundary_of, cpu_field}
use Rattle.vms_line.proofs.FieldCounts.{and_then-err, and_then-ok}
use Rattle.vms_line.proofs.parsing.boundary_of.Goals as goal

pub returns-in_err-cpu-in-online : goal.returns-in_err-cpu-in-online
returns-in_err-cpu-in-online c =
    let p = err_from_is_err_and c.from_residual.result c.from_residual.ensures.1 in
    let text =
    text_from_reads c.args.word.now (codes "online") (omega arith)
    (omega arith, (omega arith, (omega arith, (omega arith, (omega arith, (omega arith, tt)))))) in
    let failed =
    and_then-err (cpu_field c.args.header.now c.args.field.now) _ c.in_err-cpu-in-online.field-0.0
    (sym c.cpu_field.ensures ∙ c.in_err-cpu-in-online.was) in
    rw (p.1, p.2) (sym (ap (λ word. boundary_of c.args.header.now word c.args.field.now) text ∙ failed))

pub returns-in_ok-cpu-in-online : goal.returns-in_ok-cpu-in-online
returns-in_ok-cpu-in-online c =
    let text =
    text_from_reads c.args.word.now (codes "online") (omega arith)
    (omega arith, (omega arith, (omega arith, (omega arith, (omega arith, (omega arith, tt)))))) in
    let found =
    and_then-ok (cpu_field c.args.header.now c.args.field.now) _ c.in_ok-cpu-in-online.cpu
    (sym c.cpu_field.ensures ∙ c.in_ok-cpu-in-online.was) in
    sym (ap (λ word. boundary_of c.args.header.now word c.args.field.now) text ∙ found)

pub returns-in_err-cpu-in-offline : goal.returns-in_err-cpu-in-offline
returns-in_err-cpu-in-offline c =
    let p =
    err_from_is_err_and c.from_residual-in_err-cpu-in-offline.result c.from_residual-in_err-cpu-in-offline.ensures.1 in
    let text =
    text_from_reads c.args.word.now (codes "offline") (omega arith)
    (omega arith, (omega arith, (omega arith, (omega arith, (omega arith, (omega arith, (omega arith, tt))))))) in
    let failed =
    and_then-err (cpu_field c.args.header.now c.args.field.now) _ c.in_err-cpu-in-offline.field-0.0
    (sym c.cpu_field-in-offline.ensures ∙ c.in_err-cpu-in-offline.was) in
    rw (p.1, p.2) (sym (ap (λ word. boundary_of c.args.header.now word c.args.field.now) text ∙ failed))

pub returns-in_ok-cpu-in-offline : goal.returns-in_ok-cpu-in-offline
returns-in_ok-cpu-in-offline c =
    let text =
    text_from_reads c.args.word.now (codes "offline") (omega arith)
    (omega arith, (omega arith, (omega arith, (omega arith, (omega arith, (omega arith, (omega arith, tt))))))) in
    let found =
    and_then-ok (cpu_field c.args.header.now c.args.field.now) _ c.in_ok-cpu-in-offline.cpu
    (sym c.cpu_field-in-offline.ensures ∙ c.in_ok-cpu-in-offline.was) in
    sym (ap (λ word. boundary_of c.args.header.now word c.args.field.now) text ∙ found)

pub returns-in-report : goal.returns-in-report
returns-in-report c =
    c.report_named.ensures
    ∙ sym (ap (λ word. boundary_of c.args.header.now word c.args.field.now)
    (text_from_reads c.args.word.now (codes "report") (omega arith)
    (omega arith, (omega arith, (omega arith, (omega arith, (omega arith, (omega arith, tt))))))))
