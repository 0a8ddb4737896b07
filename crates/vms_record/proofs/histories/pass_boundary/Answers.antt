-- A part that begins with a boundary line, and one that doesn't.
use Rattle.std.proofs.Common.{◌∙◌, sym}
use Rattle.vms_trace_parts.specs.Common.{part_of}
use Rattle.vms_record.proofs.PartSteps.{bound, passed-none, passed-some}
use Rattle.vms_record.proofs.histories.pass_boundary.Goals as goal

pub returns-in-Some : goal.returns-in-Some
returns-in-Some c = λ segments hs start s written after is stand.
    let header = c.args.header.now in
    let begin = (part_of c.args.part.now).begin in
    let some = sym c.boundary.ensures ∙ c.in-Some.is in
    let bound = bound header segments hs start s written after begin c.in-Some.field-0-0 c.in-Some.boundary some stand in
    passed-some header segments hs start s written after begin c.in-Some.field-0-0 c.in-Some.boundary some stand
    c.cross.new.self (c.cross.ensures segments hs start s written c.in-Some.field-0-0 is bound.0.0 bound.0.1)

pub returns-in_default : goal.returns-in_default
returns-in_default c = λ segments hs start s written after is stand.
    passed-none c.args.header.now segments hs start s written after (part_of c.args.part.now).begin c.args.writer.now is
    (sym c.boundary.ensures ∙ c.in_default.is) stand
