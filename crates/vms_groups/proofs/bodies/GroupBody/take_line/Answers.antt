-- A line that exceeds a limit, one at which the phase fails, and one that is taken.
use Rattle.std.proofs.lemmas.Result.{err_from_is_err_and}
use Rattle.vms_groups.proofs.BodyLines.{SomePhase-judged, limit-exceeded, line-failed, line-taken}
use Rattle.vms_groups.proofs.bodies.GroupBody.take_line.Goals as goal

pub judge-judged-requires-clause-judge : goal.judge-judged-requires-clause-judge
judge-judged-requires-clause-judge g c = record {
  lines = c.requires.body.1.kept.lines;
  stands = c.requires.body.1.here.judges;
}

pub take-requires-clause-phase : goal.take-requires-clause-phase
take-requires-clause-phase g c =
    SomePhase-judged c.judged_group_lines_fit.ensures c.args.self.now c.args.number c.args.line.now
    c.judge-judged.result c.judge-judged.new.self c.judge-judged.ensures c.requires.body.0 c.requires.body.1

pub returns-in-Some : goal.returns-in-Some
returns-in-Some g c =
    limit-exceeded c.judged_group_lines_fit.ensures c.args.self.now c.args.number c.args.line.now
    c.judge-judged.result c.judge-judged.new.self c.judge-judged.ensures c.requires.most c.count.result
    c.count.new.self c.count.ensures c.in-Some.halt (g.E.GroupEngine.made c.args.engine.now) c.args.out.now.items _
    c.in-Some.is

pub returns-in_err-take : goal.returns-in_err-take
returns-in_err-take g c =
    let p = err_from_is_err_and c.from_residual.result c.from_residual.ensures.1 in
    rw p.1 (line-failed c.judged_group_lines_fit.ensures c.args.self.now c.args.number c.args.line.now
    c.judge-judged.result c.judge-judged.new.self c.judge-judged.ensures c.requires.most c.count.result
    c.count.new.self c.count.ensures c.in_default.is c.take.new.self _ _ c.args.out.now.items c.take.new.out.items
    _ p.0 _ c.in_err-take.ensures)

pub returns : goal.returns
returns g c =
    line-taken c.judged_group_lines_fit.ensures c.args.self.now c.args.number c.args.line.now
    c.judge-judged.result c.judge-judged.new.self c.judge-judged.ensures c.requires.most c.count.result
    c.count.new.self c.count.ensures c.in_default.is c.take.new.self _ _ c.args.out.now.items c.take.new.out.items
    c.in_ok-take.ensures
