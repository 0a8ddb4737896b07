-- A line past the limit on lines.
use Rattle.vms_command.proofs.CommandLines.{line-beyond}
use Rattle.vms_command.proofs.trace_jobs.TraceJobJob.take_line.Goals as goal

pub returns-then-self-gt-MOST_LINES : goal.returns-then-self-gt-MOST_LINES
returns-then-self-gt-MOST_LINES g c =
    line-beyond g.B.Body.command g.B.Body.Stands c.args.self.now (g.B.Body.made c.args.engine.now) c.args.line.now
    c.args.out.now.items _ c.if-self-gt-MOST_LINES.true
