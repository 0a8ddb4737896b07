-- A header that goes on, one that ends, and a line at fault.
use Rattle.std.proofs.Common.{◌≡◌, ◌++◌, subst}
use Rattle.std.specs.Prelude.{Ok, Err}
use Rattle.vms_header.specs.declared.causes.HeaderCause.{HeaderCause}
use Rattle.vms_header.specs.declared.causes.ReadError.{ReadError}
use Rattle.vms_header.specs.declared.reader.HeaderStep.{HeaderStep}
use Rattle.vms_header.specs.Common.{head_line, StepsTo}
use Rattle.vms_command.specs.Common.{header_line}
use Rattle.vms_certifying.proofs.HeadLines.{head-begins, head-goes, head-refused}
use Rattle.vms_certifying.proofs.jobs.step_header.Goals as goal

pub returns-in-Ok-Goes : goal.returns-in-Ok-Goes
returns-in-Ok-Goes g c =
    let read = head_line c.args.reader c.args.line.now in
    head-goes g.J.HistoryJudge.Gathers g.J.HistoryJudge.Accepts c.args.number read c.in-Ok-Goes.reader
    c.args.out.now.items
    (subst (λ (step : HeaderStep). StepsTo read (Ok step)) c.in-Ok-Goes.field-0-is c.in-Ok-Goes.ensures.step)

pub returns-in_ok-part-in-Ok-Ends : goal.returns-in_ok-part-in-Ok-Ends
returns-in_ok-part-in-Ok-Ends g c =
    let read = head_line c.args.reader c.args.line.now in
    let steps = subst (λ (step : HeaderStep). StepsTo read (Ok step))
    c.in-Ok-Ends.field-0-is c.in-Ok-Ends.ensures.step in
    let begins = c.in_ok-part-in-Ok-Ends.ensures in
    head-begins g.J.HistoryJudge.Gathers g.J.HistoryJudge.Accepts c.args.number read steps.0 c.in-Ok-Ends.header
    c.in_ok-part-in-Ok-Ends.part c.args.out.now.items steps.1 steps.2 begins.0 begins.1

pub returns-in_ok-write_header_line-in-Err-Refused : goal.returns-in_ok-write_header_line-in-Err-Refused
returns-in_ok-write_header_line-in-Err-Refused g c =
    let read = head_line c.args.reader c.args.line.now in
    head-refused g.J.HistoryJudge.Gathers g.J.HistoryJudge.Accepts c.args.number read c.in-Err-Refused.cause
    c.args.out.now.items c.write_header_line.new.out.items
    (subst (λ (error : ReadError). StepsTo read (Err error)) c.in-Err-Refused.field-0-is c.in-Err-Refused.ensures.step)
    (subst (λ (cause : HeaderCause). c.write_header_line.new.out.items ≡ c.args.out.now.items ++ header_line
    (record { line = c.args.number; cause = cause }))
    c.in-Err-Refused.cause-is c.in_ok-write_header_line-in-Err-Refused.ensures.ok)
