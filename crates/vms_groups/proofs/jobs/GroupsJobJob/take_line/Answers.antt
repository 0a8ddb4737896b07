-- A line past the limit on lines.
use Rattle.vms_groups.proofs.JobLines.{line-beyond}
use Rattle.vms_groups.proofs.jobs.GroupsJobJob.take_line.Goals as goal

pub returns-then-self-gt-MOST_LINES : goal.returns-then-self-gt-MOST_LINES
returns-then-self-gt-MOST_LINES g c =
    line-beyond c.args.self.now (g.E.GroupEngine.made c.args.engine.now) c.args.line.now c.args.out.now.items _
    c.if-self-gt-MOST_LINES.true
