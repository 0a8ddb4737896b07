-- The status says what it says of a command that makes no phase.
use Rattle.std.proofs.Common.{None}
use Rattle.vms_check.specs.Common.{checking}
use Rattle.vms_check.proofs.CheckedLines.{IsPlain-checking}
use Rattle.vms_command.proofs.Common.{TakesAndWrites-plain}
use Rattle.vms_check.proofs.tool.tool_check.Goals as goal

pub returns : goal.returns
returns g c =
    TakesAndWrites-plain checking IsPlain-checking (λ header above kept given. Unit {0}) None None g.S.Source.remaining
    g.S.Source.faults g.S.Source.calls g.K.Sink.written g.K.Sink.faults g.K.Sink.calls c.args.src.now c.follow.new.src
    c.args.out.now c.follow.new.out c.follow.result.0 c.follow.ensures
