-- The writing stops within the parts, or at the end, or all is written.
use Rattle.std.proofs.Common.{◌≡◌, List, append-nil, map, subst}
use Rattle.std.proofs.lemmas.Result.{err_from_is_err_and}
use Rattle.vms_trace_parts.specs.Common.{part_of, segments_of_parts}
use Rattle.vms_world.specs.Common.{Segment}
use Rattle.vms_record.specs.Histories.{StopsWithin}
use Rattle.vms_record.proofs.Following.{counts-on}
use Rattle.vms_record.proofs.PartSteps.{RecordsSegments-flushed}
use Rattle.vms_record.proofs.histories.write_begun.Goals as goal

pub returns-in_err-write_each-clause-records : goal.returns-in_err-write_each-clause-records
returns-in_err-write_each-clause-records g c =
    let p = err_from_is_err_and c.from_residual.result c.from_residual.ensures.1 in
    let records = c.in_err-write_each.ensures.records in
    rw p.1 (record {
      written = records.moved;
      appends = records.appends;
      outcome = subst (λ (l : List Segment). StopsWithin c.args.header.now l records.moved)
          (append-nil (segments_of_parts (map part_of c.args.parts.now))) records.outcome;
    })

pub returns-clause-records : goal.returns-clause-records
returns-clause-records g c =
    let header = c.args.header.now in
    RecordsSegments-flushed header (segments_of_parts (map part_of c.args.parts.now))
    (λ segments hs start s recorded. c.recorded_histories_go_on.ensures.recorded header segments hs start s recorded)
    (g.K.Sink.written c.args.out.now) (g.K.Sink.written c.write_each.new.out) (g.K.Sink.written c.flush.new.out)
    c.write_each.new.writer c.flush.new.self tt c.in_ok-write_each.ensures.records c.flush.result
    (λ segments hs start s written is. c.flush.ensures.flushes header segments hs start s written is)

pub returns-clause-counts : goal.returns-clause-counts
returns-clause-counts g c =
    counts-on g.K.Sink.written g.K.Sink.faults g.K.Sink.calls c.args.out.now c.write_each.new.out c.flush.new.out
    c.flush.result c.in_ok-write_each.ensures.counts c.flush.ensures.counts
