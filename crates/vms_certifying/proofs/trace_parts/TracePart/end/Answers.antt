-- The trace ends with its open phase, and the history begins.
use Rattle.vms_certifying.proofs.KeptLines.{KeepsWritten-ended, SomeLines-trace, header-ended}
use Rattle.vms_certifying.proofs.trace_parts.TracePart.end.Goals as goal

pub end_phase-requires : goal.end_phase-requires
end_phase-requires g c =
    SomeLines-trace g.J.HistoryJudge.Gathers c.requires.0 c.requires.1 c.args.self c.requires.2 c.requires.3
    c.args.self.judge

pub begin-requires : goal.begin-requires
begin-requires g c =
    let some = SomeLines-trace g.J.HistoryJudge.Gathers c.requires.0 c.requires.1 c.args.self c.requires.2 c.requires.3
    c.args.self.judge in
    header-ended g.J.HistoryJudge.Gathers g.J.HistoryJudge.Accepts c.args.self c.end_phase.new.self some
    (c.in_ok-end_phase.ensures some.lines some.above some.keeps)

pub returns : goal.returns
returns g c =
    KeepsWritten-ended g.J.HistoryJudge.Gathers g.J.HistoryJudge.Accepts c.args.self c.end_phase.new.self
    c.begin.new.self c.in_ok-end_phase.ensures c.begin.ensures
