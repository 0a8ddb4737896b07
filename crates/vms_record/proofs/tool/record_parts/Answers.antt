-- The history was written, or the writing stopped within it.
use Rattle.std.proofs.Common.{inl, inr, refl}
use Rattle.vms_record.proofs.Following.{unfailed-writes}
use Rattle.vms_record.proofs.tool.record_parts.Goals as goal

pub returns-in-Ok : goal.returns-in-Ok
returns-in-Ok g c =
    let records = c.in-Ok.ensures.records in
    record {
      history = records.written;
      appends = records.appends;
      goes_on = inl (refl, records.outcome);
      writes = unfailed-writes g.K.Sink.written g.K.Sink.faults g.K.Sink.calls c.args.ended c.args.out.now
          c.write_history.new.out c.requires.ended c.in-Ok.ensures.counts;
    }

pub returns-in-Err : goal.returns-in-Err
returns-in-Err g c =
    let records = c.in-Err.ensures.records in
    record {
      history = records.written;
      appends = records.appends;
      goes_on = inr (c.in-Err.ensures.cause, records.outcome);
      writes = c.in-Err.ensures.counts;
    }
