use Rattle.std.proofs.Common.{◌≡◌, [], length}
use Rattle.vms_io.proofs.Written.{Wrote}
use Rattle.vms_io.proofs.loops.write_all.Given as goal

abbrev pub invariant-loop-rest : goal.invariant-loop-rest
invariant-loop-rest g l =
    Wrote (g.K.Sink.written l.initial.out) (g.K.Sink.written l.out) l.bytes l.rest
    × (g.K.Sink.faults l.out ≡ g.K.Sink.faults l.initial.out)
    × (l.bytes ≡ [] → l.out ≡ l.initial.out)

abbrev pub decreases-loop-rest : goal.decreases-loop-rest
decreases-loop-rest g l = length l.rest
