-- One part after another.
use Rattle.std.proofs.Common.{◌≡◌, ◌∙◌, ◌+◌, ℕ, List, [], ◌++◌, append-nil, ap, arith, drop, length, map, refl, subst}
use Rattle.std.proofs.Common.{sym, take}
use Rattle.std.proofs.KnownBytes.{Appends-nil, Appends-trans}
use Rattle.std.proofs.lemmas.List.{length-map, take_all}
use Rattle.std.proofs.lemmas.Result.{err_from_is_err_and}
use Rattle.vms_recording.specs.Common.{IsRecording}
use Rattle.vms_world.specs.Common.{AreSegments, Segment, first_start}
use Rattle.vms_trace_parts.specs.Common.{TracePart, part_of, segments_of_part, segments_of_parts}
use Rattle.vms_record.specs.Histories.{StopsWithin}
use Rattle.vms_record.proofs.Following.{write-on}
use Rattle.vms_record.proofs.PartSegments.{segments-cut, segments-left, segments-more}
use Rattle.vms_record.proofs.histories.write_each.Goals as goal

pub loop-part-init : goal.loop-part-init
loop-part-init g c = (
  [],
  first_start,
  c.requires.recording.0,
  [],
  c.requires.recording.1,
  Appends-nil (g.K.Sink.written c.args.out.now),
  c.requires.stand,
  refl,
)

pub write_part-requires-clause-recording : goal.write_part-requires-clause-recording
write_part-requires-clause-recording g c =
    let inv = c.loop-part.invariant in
    let parts = c.args.parts.now in
    let i = c.loop-part.part-index in
    let item = c.part-item.result in (
      segments_of_parts (take i (map part_of parts)),
      inv.0,
      inv.1,
      inv.2,
      inv.3,
      segments_of_parts (drop (i + 1) (map part_of parts)),
      inv.4,
      subst (λ (l : List Segment). AreSegments c.args.header.now inv.1 l)
          (segments-left parts i item c.loop-part-test.true c.part-item.is) inv.6,
    )

pub returns-in_err-write_part-clause-records : goal.returns-in_err-write_part-clause-records
returns-in_err-write_part-clause-records g c =
    let p = err_from_is_err_and c.from_residual.result c.from_residual.ensures.1 in
    let inv = c.loop-part.invariant in
    let parts = c.args.parts.now in
    let i = c.loop-part.part-index in
    let item = c.part-item.result in
    let all = segments_of_parts (map part_of parts) in
    let written = g.K.Sink.written in
    let records = c.in_err-write_part.ensures.records (segments_of_parts (take i (map part_of parts))) inv.0 inv.1 inv.2
    inv.3 (segments_of_parts (drop (i + 1) (map part_of parts))) inv.4
    (subst (λ (l : List Segment). AreSegments c.args.header.now inv.1 l)
    (segments-left parts i item c.loop-part-test.true c.part-item.is) inv.6) in
    rw p.1 (record {
      moved = inv.3 ++ records.moved;
      appends = Appends-trans (written c.args.out.now) (written c.loop-part.out) (written c.write_part.new.out) inv.3
          records.moved inv.5 records.appends;
      outcome = subst (λ (l : List Segment). StopsWithin c.args.header.now l (inv.3 ++ records.moved))
          (segments-cut parts i item c.loop-part-test.true c.part-item.is ∙ sym (append-nil all)) records.outcome;
    })

pub returns-in_err-write_part-clause-counts : goal.returns-in_err-write_part-clause-counts
returns-in_err-write_part-clause-counts g c =
    let p = err_from_is_err_and c.from_residual.result c.from_residual.ensures.1 in
    rw (p.1, p.2) (write-on g.K.Sink.written g.K.Sink.faults g.K.Sink.calls c.args.out.now c.loop-part.out
    c.write_part.new.out _ c.loop-part.invariant.7 c.in_err-write_part.ensures.counts)

pub loop-part-preserved : goal.loop-part-preserved
loop-part-preserved g c =
    let inv = c.loop-part.invariant in
    let parts = c.args.parts.now in
    let i = c.loop-part.part-index in
    let item = c.part-item.result in
    let written = g.K.Sink.written in
    let records = c.in_ok-write_part.ensures.records (segments_of_parts (take i (map part_of parts))) inv.0 inv.1 inv.2
    inv.3 (segments_of_parts (drop (i + 1) (map part_of parts))) inv.4
    (subst (λ (l : List Segment). AreSegments c.args.header.now inv.1 l)
    (segments-left parts i item c.loop-part-test.true c.part-item.is) inv.6) in
    let went = records.outcome in (
      went.0,
      went.1,
      went.2,
      inv.3 ++ records.moved,
      subst (λ (l : List Segment). IsRecording c.args.header.now l went.0 went.1 went.2 (inv.3 ++ records.moved)
          c.write_part.new.writer)
          (sym (segments-more parts i item c.loop-part-test.true c.part-item.is)) went.3,
      Appends-trans (written c.args.out.now) (written c.loop-part.out) (written c.write_part.new.out) inv.3
          records.moved inv.5 records.appends,
      went.4,
      c.in_ok-write_part.ensures.counts ∙ inv.7,
    )

pub returns-clause-records : goal.returns-clause-records
returns-clause-records g c =
    let inv = c.loop-part.invariant in
    let all = map part_of c.args.parts.now in
    let i = c.loop-part.part-index in
    let count = length-map c.args.parts.now part_of in
    record {
      moved = inv.3;
      appends = inv.5;
      outcome = (
        inv.0,
        inv.1,
        inv.2,
        subst (λ (l : List TracePart). IsRecording c.args.header.now (segments_of_parts l) inv.0 inv.1 inv.2 inv.3
            c.loop-part.writer)
            (take_all i all (omega (arith, count))) inv.4,
        tt,
      );
    }

pub returns-clause-counts : goal.returns-clause-counts
returns-clause-counts g c = c.loop-part.invariant.7
