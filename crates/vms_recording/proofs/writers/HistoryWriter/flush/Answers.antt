-- What waited is written, or its front.
use Rattle.std.proofs.Common.{refl}
use Rattle.vms_recording.proofs.FlushedBytes.{Flushes-written}
use Rattle.vms_recording.proofs.writers.HistoryWriter.flush.Goals as goal

pub returns-clause-flushes : goal.returns-clause-flushes
returns-clause-flushes g c header segments hs start s written is =
    Flushes-written header segments hs start s written c.args.self.now is _ refl (g.K.Sink.written c.args.out.now)
    (g.K.Sink.written c.write_waiting.new.out) c.write_waiting.result c.write_waiting.ensures.writes
    c.write_waiting.ensures.empty
