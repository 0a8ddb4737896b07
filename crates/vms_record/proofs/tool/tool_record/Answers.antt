-- What the copy answers, and what follows it.
use Rattle.vms_trace_parts.specs.Common.{parts_of}
use Rattle.vms_record.proofs.Following.{MayFollow-copied, SaysRecord-after}
use Rattle.vms_record.proofs.tool.tool_record.Goals as goal

pub record_after-requires : goal.record_after-requires
record_after-requires g c =
    MayFollow-copied g.S.Source.remaining g.S.Source.faults g.S.Source.calls g.K.Sink.written g.K.Sink.faults
    g.K.Sink.calls c.args.src.now c.copy_trace-ended.new.src c.args.out.now (parts_of c.copy_trace-ended.result.1)
    c.copies_texts.ensures c.copy_trace-ended.new.out c.copy_trace-ended.result.0 c.copy_trace-ended.ensures

pub returns : goal.returns
returns g c =
    SaysRecord-after g.S.Source.remaining g.S.Source.faults g.S.Source.calls g.K.Sink.written g.K.Sink.faults
    g.K.Sink.calls c.args.src.now c.copy_trace-ended.new.src c.args.out.now (parts_of c.copy_trace-ended.result.1)
    c.copies_texts.ensures c.copy_trace-ended.new.out c.record_after.new.out c.copy_trace-ended.result.0
    c.record_after.result c.copy_trace-ended.ensures c.record_after.ensures
