-- A line past the limit on lines.
use Rattle.vms_certifying.proofs.JobLines.{line-beyond}
use Rattle.vms_certifying.specs.JobStates.{made_by}
use Rattle.vms_certifying.proofs.jobs.CertifyJobJob.take_line.Goals as goal

pub returns-then-self-gt-MOST_LINES : goal.returns-then-self-gt-MOST_LINES
returns-then-self-gt-MOST_LINES g c =
    line-beyond g.J.HistoryJudge.rules g.J.HistoryJudge.Gathers g.J.HistoryJudge.Accepts c.args.self.now
    (made_by c.args.verdicts.now) c.args.line.now c.args.out.now.items _ c.if-self-gt-MOST_LINES.true
