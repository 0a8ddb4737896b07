-- A line that counts is one of its header, and each line prints its text.
use Rattle.std.proofs.Common.{sym, ap, ◌∙◌, ◌++◌, None, Result}
use Rattle.vms_line.specs.declared.causes.LineCause.{LineCause}
use Rattle.vms_text.specs.declared.acts.Line.{Line}
use Rattle.vms_script.proofs.Common.{judged-known}
use Rattle.vms_check.specs.Common.{checked_line, checking}
use Rattle.vms_check.proofs.CheckedLines.{IsPlain-checking}
use Rattle.vms_command.proofs.Common.{BodyTakes-plain}
use Rattle.vms_check.proofs.bodies.CheckBodyBody.take_line.Goals as goal

pub write_accepted-requires-clause-line : goal.write_accepted-requires-clause-line
write_accepted-requires-clause-line c =
    let some = c.requires.line in
    judged-known c.args.header.now some.above.lines some.judged.0 c.in-Ok.line c.requires.header (sym some.judged.1
    ∙ c.in-Ok.is)

pub returns-in-Ok : goal.returns-in-Ok
returns-in-Ok c =
    BodyTakes-plain checking IsPlain-checking (λ header above kept. Unit {0}) (λ header above kept. Unit {0}) None
    c.args.header.now c.args.number c.args.judged.now.said c.write_accepted.result c.args.out.now.items
    c.write_accepted.new.out.items c.write_accepted.ensures.ok
    (λ prints above kept here judged_is. (
      tt,
      prints ∙ ap (λ (r : Result Line LineCause).
          c.args.out.now.items ++ checked_line c.args.header.now c.args.number r)
          (sym c.in-Ok.is),
    ))

pub returns-in-Err : goal.returns-in-Err
returns-in-Err c =
    BodyTakes-plain checking IsPlain-checking (λ header above kept. Unit {0}) (λ header above kept. Unit {0}) None
    c.args.header.now c.args.number c.args.judged.now.said c.write_refused.result c.args.out.now.items
    c.write_refused.new.out.items c.write_refused.ensures.ok
    (λ prints above kept here judged_is. (
      tt,
      prints ∙ ap (λ (r : Result Line LineCause).
          c.args.out.now.items ++ checked_line c.args.header.now c.args.number r)
          (sym c.in-Err.is),
    ))
