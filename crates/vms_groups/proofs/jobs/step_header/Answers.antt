-- A header that goes on, one that ends, and a line at fault.
use Rattle.std.proofs.Common.{◌≡◌, ◌++◌, subst}
use Rattle.std.specs.Prelude.{Ok, Err}
use Rattle.vms_group_lines.specs.declared.causes.GroupCause.{GroupCause}
use Rattle.vms_group_lines.specs.declared.causes.GroupReadError.{GroupReadError}
use Rattle.vms_group_lines.specs.declared.reader.GroupHeadStep.{GroupHeadStep}
use Rattle.vms_group_lines.specs.Common.{StepsTo, group_head_line}
use Rattle.vms_groups.specs.GroupTexts.{group_header_line}
use Rattle.vms_groups.proofs.JobLines.{head-begins, head-goes, head-refused}
use Rattle.vms_groups.proofs.jobs.step_header.Goals as goal

pub returns-in-Ok-Goes : goal.returns-in-Ok-Goes
returns-in-Ok-Goes c =
    let read = group_head_line c.args.reader c.args.line.now in
    head-goes c.args.number read c.in-Ok-Goes.reader c.args.out.now.items
    (subst (λ (step : GroupHeadStep). StepsTo read (Ok step)) c.in-Ok-Goes.field-0-is c.in-Ok-Goes.ensures.step)

pub returns-in_ok-body-in-Ok-Ends : goal.returns-in_ok-body-in-Ok-Ends
returns-in_ok-body-in-Ok-Ends c =
    let read = group_head_line c.args.reader c.args.line.now in
    let steps = subst (λ (step : GroupHeadStep). StepsTo read (Ok step))
    c.in-Ok-Ends.field-0-is c.in-Ok-Ends.ensures.step in
    head-begins c.args.number read c.in-Ok-Ends.header c.in_ok-body-in-Ok-Ends.body c.args.out.now.items steps
    c.in_ok-body-in-Ok-Ends.ensures.header c.in_ok-body-in-Ok-Ends.ensures.stands

pub returns-in_ok-write_header_line-in-Err-Refused : goal.returns-in_ok-write_header_line-in-Err-Refused
returns-in_ok-write_header_line-in-Err-Refused c =
    let read = group_head_line c.args.reader c.args.line.now in
    head-refused c.args.number read c.in-Err-Refused.cause c.args.out.now.items c.write_header_line.new.out.items
    (subst (λ (error : GroupReadError). StepsTo read (Err error)) c.in-Err-Refused.field-0-is
    c.in-Err-Refused.ensures.step)
    (subst (λ (cause : GroupCause). c.write_header_line.new.out.items ≡ c.args.out.now.items ++ group_header_line
    (record { line = c.args.number; cause = cause }))
    c.in-Err-Refused.cause-is c.in_ok-write_header_line-in-Err-Refused.ensures.ok)
