use Rattle.std.proofs.Common.{◌≡◌, ℕ, List, ◌+◌, ◌-◌, ◌^◌, true, if◌then◌else◌}
use Rattle.std.specs.Io.KnownBytes.{Appends, Consumes, IsAtEnd}
use Rattle.vms_stream.specs.Common.{Grows, IsPhasedCourse}
use Rattle.vms_stream.proofs.streaming.run.Given as goal

abbrev pub invariant-pieces : goal.invariant-pieces
invariant-pieces g l = record {
  outcomes : List g.J.Job.Outcome;
  taken : List ℕ;
  written : List ℕ;
  grows : Grows (g.J.Job.made l.initial.engine) (g.J.Job.made l.engine) outcomes;
  consumes : Consumes (g.S.Source.remaining l.initial.src) (g.S.Source.remaining l.src) taken;
  appends : Appends (g.K.Sink.written l.initial.out) (g.K.Sink.written l.out) written;
  course : IsPhasedCourse g.J.Job.behavior (g.J.Job.Stands l.job) outcomes taken written l.course;
  ended : l.course.at_end ≡ true → IsAtEnd (g.S.Source.remaining l.src);
  reads : g.S.Source.faults l.src ≡ g.S.Source.faults l.initial.src;
  writes : g.K.Sink.faults l.out ≡ g.K.Sink.faults l.initial.out;
}

abbrev pub decreases-pieces : goal.decreases-pieces
decreases-pieces g l = if l.course.at_end then 0 else (2 ^ 26 + 1 - l.course.taken)
