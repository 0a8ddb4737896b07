-- The lines so far are what the check has accepted.
use Rattle.vms_history_judge.proofs.TakenLines.{may-finish}
use Rattle.vms_history_judge.proofs.judges.JudgeHistoryJudge.push_due.Goals as goal

pub push_due-requires-clause-check : goal.push_due-requires-clause-check
push_due-requires-clause-check g c =
    may-finish g.W.LaneWalk.Stands g.W.LaneWalk.pressure g.W.LaneWalk.normal c.args.header.now c.args.self.now
    c.in-Some.check c.in-Some.is c.requires.stands
