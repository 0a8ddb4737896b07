-- A line that counts is one of its header, and each line prints its text.
use Rattle.std.proofs.Common.{sym, refl, ◌∙◌, append-nil, Ok, Err}
use Rattle.std.proofs.lemmas.Result.{err_from_is_err_and}
use Rattle.vms_script.proofs.Common.{judged-known}
use Rattle.vms_trace_parts.proofs.HeldParts.{BodyTakes-failed, BodyTakes-line, TakesLine-refused}
use Rattle.vms_trace_parts.proofs.bodies.TraceCopyBody.take_line.Goals as goal

pub write_accepted-requires-clause-line : goal.write_accepted-requires-clause-line
write_accepted-requires-clause-line c =
    let some = c.requires.line in
    judged-known c.args.header.now some.above.lines some.judged.0 c.in-Ok.line c.requires.header (sym some.judged.1
    ∙ c.in-Ok.is)

pub returns-in_err-write_accepted-in-Ok : goal.returns-in_err-write_accepted-in-Ok
returns-in_err-write_accepted-in-Ok c =
    let p = err_from_is_err_and c.from_residual.result c.from_residual.ensures.1 in
    BodyTakes-failed c.args.self.now c.args.header.now c.args.self.now c.args.number c.args.judged.now.said _ _
    c.from_residual.result p.0 c.args.out.now.items c.write_accepted.new.out.items p.1 refl

pub returns-in_ok-write_accepted-in-Ok : goal.returns-in_ok-write_accepted-in-Ok
returns-in_ok-write_accepted-in-Ok c =
    rw c.in-Ok.is (BodyTakes-line c.args.self.now c.args.header.now c.take.new.self c.args.number (Ok c.in-Ok.line) _ _
    c.take.result c.args.out.now.items c.write_accepted.new.out.items c.take.ensures
    c.in_ok-write_accepted-in-Ok.ensures.ok)

pub returns-in-Err : goal.returns-in-Err
returns-in-Err c =
    rw c.in-Err.is (BodyTakes-line c.args.self.now c.args.header.now c.args.self.now c.args.number
    (Err c.in-Err.field-0) _ _ (Ok tt) c.args.out.now.items c.args.out.now.items
    (TakesLine-refused c.args.self.now c.args.header.now c.args.number c.in-Err.field-0 _)
    (sym (append-nil c.args.out.now.items)))
