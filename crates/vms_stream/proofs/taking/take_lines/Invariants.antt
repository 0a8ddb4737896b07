use Rattle.std.proofs.Common.{◌≡◌, ℕ, List, ◌++◌, length, None, Ok}
use Rattle.vms_stream.specs.Common.{TakesText}
use Rattle.vms_stream.specs.declared.statuses.Status.{Status}
use Rattle.vms_text.specs.Common.{lines_of}
use Rattle.vms_stream.proofs.taking.take_lines.Given as goal

abbrev pub invariant-lines : goal.invariant-lines
invariant-lines g l = record {
  above : List (List ℕ);
  parts : lines_of l.fn.text ≡ above ++ lines_of l.rest;
  took : TakesText {E = Status} g.J.Job.behavior (g.J.Job.Stands l.initial.job)
      (g.J.Job.Stands l.job) (g.J.Job.made l.initial.engine) (g.J.Job.made l.engine) above (Ok None)
      l.initial.waiting.items l.waiting.items (g.K.Sink.written l.initial.out) (g.K.Sink.written l.out);
  writes : g.K.Sink.faults l.out ≡ g.K.Sink.faults l.initial.out;
}

abbrev pub decreases-lines : goal.decreases-lines
decreases-lines g l = length l.rest
