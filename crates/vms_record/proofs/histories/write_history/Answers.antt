-- The first line, and then the histories of the parts.
use Rattle.std.proofs.Common.{List, subst}
use Rattle.vms_trace_parts.specs.Common.{TracePart, parts_of, segments_of_parts}
use Rattle.vms_record.specs.Histories.{RecordsSegments}
use Rattle.vms_record.proofs.PartSteps.{RecordsParts-joined}
use Rattle.vms_record.proofs.histories.write_history.Goals as goal

pub returns-clause-records : goal.returns-clause-records
returns-clause-records g c =
    let wrote = c.in_ok-write_first_line.ensures.writes in
    let written = g.K.Sink.written in
    RecordsParts-joined (parts_of c.args.parts.now) c.in-Some.header.now c.in-Some.ensures.some
    (written c.args.out.now) (written c.write_first_line.new.out) (written c.write_parts.new.out) wrote.written
    wrote.appends wrote.outcome c.write_parts.result
    (subst (λ (parts : List TracePart). RecordsSegments c.in-Some.header.now (segments_of_parts parts)
    (written c.write_first_line.new.out) (written c.write_parts.new.out) c.write_parts.result) c.as_slice.ensures
    c.write_parts.ensures.records)
