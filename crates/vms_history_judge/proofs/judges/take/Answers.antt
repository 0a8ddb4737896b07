-- A line that wasn't taken.
use Rattle.std.proofs.Common.{ℕ, List, Option, sym, subst}
use Rattle.vms_core.specs.Pages.{History}
use Rattle.vms_world.specs.Common.{Header, Segment, ZoneSize}
use Rattle.vms_written_lines.specs.declared.lines.WrittenLine.{WrittenLine}
use Rattle.vms_written_lines.specs.Lines.{read_line}
use Rattle.vms_history_checks.specs.Says.{IsSaidError}
use Rattle.vms_history_checks.specs.declared.errors.CheckError.{CheckError}
use Rattle.vms_history_checks.specs.declared.errors.CheckError.TheVariants as checks
use Rattle.vms_certifying.specs.declared.errors.JudgeError.{JudgeError}
use Rattle.vms_history_judge.specs.Takes.{IsSaidFault, same_error}
use Rattle.vms_history_judge.proofs.TakenLines.{said-fault}
use Rattle.vms_history_judge.proofs.judges.take.Goals as goal

pub returns-in-Err-clause-same : goal.returns-in-Err-clause-same
returns-in-Err-clause-same g c = (c.in-Err.ensures c.requires.check.0 c.requires.check.1 c.requires.check.2).0

pub returns-in-Err-clause-judged : goal.returns-in-Err-clause-judged
returns-in-Err-clause-judged g c = λ segments hs accepts.
    subst (λ (error : JudgeError). IsSaidFault g.W.LaneWalk.pressure g.W.LaneWalk.normal c.args.header.now segments hs
    (read_line c.args.header.now.layout c.args.line.now)
    error) (sym c.judge_error.ensures)
    (said-fault g.W.LaneWalk.Stands g.W.LaneWalk.pressure g.W.LaneWalk.normal c.args.header.now segments hs
    (read_line c.args.header.now.layout c.args.line.now)
    c.in-Err.error (c.in-Err.ensures segments hs accepts).1)
