-- A phase that failed, what the report finds, and the report.
use Rattle.std.proofs.lemmas.Result.{err_from_is_err_and}
use Rattle.vms_groups.specs.GroupTexts.{with_phase}
use Rattle.vms_groups.proofs.EndedPhases.{TakesJudged-report, TakesJudged-unended}
use Rattle.vms_groups.proofs.open_phases.OpenPhase.end_with_report.Goals as goal

pub end-requires-clause-phase : goal.end-requires-clause-phase
end-requires-clause-phase g c =
    (c.requires.phase.kept, c.requires.phase.texts, c.requires.phase.stands)

pub returns-in_err-end : goal.returns-in_err-end
returns-in_err-end g c =
    let p = err_from_is_err_and c.from_residual.result c.from_residual.ensures.1 in
    TakesJudged-unended c.args.header.now c.args.number c.args.self.now c.end.new.self _ _ c.args.out.now.items
    c.end.new.out.items c.end.result c.from_residual.result p.0 c.end.new.self c.end.new.out.items p.1 c.end.ensures

pub report-requires-clause-phase : goal.report-requires-clause-phase
report-requires-clause-phase g c =
    let found = c.requires.phase in
    let ended = c.in_ok-end.ensures.goes found.kept found.texts found.stands in
    (with_phase c.args.header.now.tree c.in_ok-end.ensures.given found.kept, _, ended.stands)

pub returns : goal.returns
returns g c =
    TakesJudged-report c.args.header.now c.args.number c.args.self.now c.end.new.self _ _ c.args.out.now.items
    c.end.new.out.items c.in_ok-end.ensures c.report.result c.report.new.out.items c.report.ensures
