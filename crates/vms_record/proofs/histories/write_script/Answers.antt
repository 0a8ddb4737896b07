-- No lines, and a phase of lines.
use Rattle.std.proofs.Common.{◌≡◌, ◌≢◌, false, true, [], refl}
use Rattle.vms_record.proofs.PartSteps.{RecordsPart-phase, fits, kept-none}
use Rattle.vms_record.proofs.histories.write_script.Goals as goal

pub returns-then-is_empty-clause-records : goal.returns-then-is_empty-clause-records
returns-then-is_empty-clause-records g c = λ segments hs start s written after is stand.
    kept-none c.args.header.now segments hs start s written after c.args.script.now stand (c.if-is_empty.ensures.0 refl)
    c.args.writer.now is (g.K.Sink.written c.args.out.now)

pub write_phase-requires-clause-recording : goal.write_phase-requires-clause-recording
write_phase-requires-clause-recording g c =
    let may = c.requires.recording in
    let header = c.args.header.now in
    let items = c.args.script.now in
    let some : items ≢ [] = λ none. let clash : false ≡ true = c.if-is_empty.ensures.1 none in cc in (
      may.0,
      may.1,
      may.2,
      may.3,
      may.4,
      may.6,
      (fits header may.0 may.1 may.2 may.3 may.4 may.5 items may.7 some).0.1,
    )

pub returns-clause-records : goal.returns-clause-records
returns-clause-records g c = λ segments hs start s written after is stand.
    let header = c.args.header.now in
    let items = c.args.script.now in
    let some : items ≢ [] = λ none. let clash : false ≡ true = c.if-is_empty.ensures.1 none in cc in
    RecordsPart-phase header segments hs start s written after items stand some c.args.writer.now
    c.write_phase.new.self is (g.K.Sink.written c.args.out.now) (g.K.Sink.written c.write_phase.new.out)
    c.write_phase.result (c.write_phase.ensures.records segments hs start s written is
    (fits header segments hs start s written after items stand some).0.1)
