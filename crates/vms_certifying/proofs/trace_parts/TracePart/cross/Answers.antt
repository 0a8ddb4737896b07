-- The open phase ends, and the boundary line is gathered.
use Rattle.std.proofs.Common.{ap, refl}
use Rattle.vms_certifying.specs.declared.trace_parts.TracePart.{TracePart}
use Rattle.vms_certifying.proofs.KeptLines.{add_boundary-asks, crossed-ended}
use Rattle.vms_certifying.proofs.trace_parts.TracePart.cross.Goals as goal

pub add_boundary-requires : goal.add_boundary-requires
add_boundary-requires g c =
    add_boundary-asks g.J.HistoryJudge.Gathers c.args.self.now c.end_phase.new.self c.requires
    (c.in_ok-end_phase.ensures c.requires.lines c.requires.above c.requires.keeps)

pub returns-clause-crosses : goal.returns-clause-crosses
returns-clause-crosses g c = λ lines above keeps.
    let ended = c.end_phase.new.self in
    crossed-ended g.J.HistoryJudge.Gathers lines above c.args.self.now keeps c.args.boundary ended
    (record ended { history = c.add_boundary.new.self }) (c.in_ok-end_phase.ensures lines above keeps) refl
    c.in_ok-add_boundary.ensures

pub returns-clause-reports : goal.returns-clause-reports
returns-clause-reports g c =
    let has = c.in_ok-end_phase.ensures c.requires.lines c.requires.above c.requires.keeps in
    ap (λ (p : TracePart _). p.reports) has.same
