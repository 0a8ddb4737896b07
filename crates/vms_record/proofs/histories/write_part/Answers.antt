-- A part past its boundary line.
use Rattle.std.proofs.Common.{List, ◌++◌, append_assoc, subst, sym}
use Rattle.vms_world.specs.Common.{AreSegments, phase_if_any, Item, Segment}
use Rattle.vms_trace_parts.specs.Common.{part_of, segments_of_begin}
use Rattle.vms_record.specs.Histories.{MayRecordPart, RecordsPart}
use Rattle.vms_record.proofs.PartSteps.{RecordsPart-past}
use Rattle.vms_record.proofs.histories.write_part.Goals as goal

pub write_script-requires-clause-recording : goal.write_script-requires-clause-recording
write_script-requires-clause-recording g c =
    let part = part_of c.args.part.now in
    let may = c.requires.recording in
    let header = c.args.header.now in
    let begin = segments_of_begin part.begin in
    let lines = phase_if_any part.items in
    let passed = c.pass_boundary.ensures may.0 may.1 may.2 may.3 may.4 (lines ++ may.5) may.6
    (subst (λ (l : List Segment). AreSegments header may.2 l) (append_assoc begin lines may.5) may.7) in
    subst (λ (items : List Item). MayRecordPart header (phase_if_any items) c.pass_boundary.new.writer)
    (sym c.script.ensures)
    (may.0 ++ begin, may.1, passed.start, passed.s, may.4, may.5, passed.recording, passed.stand)

pub returns-clause-records : goal.returns-clause-records
returns-clause-records g c = λ segments hs start s written after is stand.
    let part = part_of c.args.part.now in
    let header = c.args.header.now in
    let begin = segments_of_begin part.begin in
    let lines = phase_if_any part.items in
    let passed = c.pass_boundary.ensures segments hs start s written (lines ++ after) is
    (subst (λ (l : List Segment). AreSegments header start l) (append_assoc begin lines after) stand) in
    RecordsPart-past header segments begin lines after written c.write_script.new.writer
    (g.K.Sink.written c.args.out.now) (g.K.Sink.written c.write_script.new.out) c.write_script.result
    (subst (λ (items : List Item). RecordsPart header (segments ++ begin) (phase_if_any items) after written
    c.write_script.new.writer (g.K.Sink.written c.args.out.now) (g.K.Sink.written c.write_script.new.out)
    c.write_script.result) c.script.ensures
    (c.write_script.ensures.records (segments ++ begin) hs passed.start passed.s written after passed.recording
    (subst (λ (items : List Item). AreSegments header passed.start (phase_if_any items ++ after)) (sym c.script.ensures)
    passed.stand)))
