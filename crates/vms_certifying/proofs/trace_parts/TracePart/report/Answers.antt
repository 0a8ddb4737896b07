-- A report too many, and a report.
use Rattle.std.proofs.Common.{refl, ◌+◌}
use Rattle.vms_certifying.proofs.KeptLines.{next-report, over-report}
use Rattle.vms_certifying.proofs.trace_parts.TracePart.report.Goals as goal

pub returns-then-self-ge-MOST_REPORTS : goal.returns-then-self-ge-MOST_REPORTS
returns-then-self-ge-MOST_REPORTS g c = λ lines above keeps.
    over-report g.J.HistoryJudge.Gathers lines above c.args.self.now keeps c.boundaries_cut.ensures c.args.number
    c.args.boundary c.requires.report c.if-self-ge-MOST_REPORTS.true

pub returns : goal.returns
returns g c = λ lines above keeps.
    let crossed = c.cross.new.self in
    next-report g.J.HistoryJudge.Gathers lines above c.args.self.now keeps c.boundaries_cut.ensures c.args.number
    c.args.boundary c.requires.report c.if-self-ge-MOST_REPORTS.false crossed
    (record crossed { reports = crossed.reports + 1 }) (c.in_ok-cross.ensures.crosses lines above keeps) refl refl
