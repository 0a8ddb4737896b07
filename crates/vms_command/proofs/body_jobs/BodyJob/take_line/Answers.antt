-- A line that exceeds a limit, one at which the body fails, and one that it takes.
use Rattle.std.proofs.lemmas.Result.{err_from_is_err_and}
use Rattle.vms_command.proofs.BodyLines.{SomeLine-judged, limit-exceeded, line-failed, line-taken}
use Rattle.vms_command.proofs.body_jobs.BodyJob.take_line.Goals as goal

pub take_line-requires-clause-line : goal.take_line-requires-clause-line
take_line-requires-clause-line g c =
    SomeLine-judged g.B.Body.command g.B.Body.Stands c.args.self.now c.args.number c.args.line.now
    c.judge-judged.result.said c.judge-judged.new.self c.judge-judged.ensures.said c.requires.body.0 c.requires.body.1

pub returns-in-Some : goal.returns-in-Some
returns-in-Some g c =
    limit-exceeded g.B.Body.command g.B.Body.Stands c.args.self.now c.args.number c.args.line.now
    c.judge-judged.result.said c.judge-judged.new.self c.judge-judged.ensures.said c.requires.most c.count.result
    c.count.new.self c.count.ensures c.in-Some.halt (g.B.Body.made c.args.engine.now) c.args.out.now.items _
    c.in-Some.is

pub returns-in_err-take_line : goal.returns-in_err-take_line
returns-in_err-take_line g c =
    let p = err_from_is_err_and c.from_residual.result c.from_residual.ensures.1 in
    rw p.1 (line-failed g.B.Body.command g.B.Body.Stands c.args.self.now c.args.number c.args.line.now
    c.judge-judged.result.said c.judge-judged.new.self c.judge-judged.ensures.said c.requires.most c.count.result
    c.count.new.self c.count.ensures c.in_default.is c.take_line.new.self _ _ c.args.out.now.items
    c.take_line.new.out.items p.0 _ _ c.in_err-take_line.ensures)

pub returns : goal.returns
returns g c =
    line-taken g.B.Body.command g.B.Body.Stands c.args.self.now c.args.number c.args.line.now
    c.judge-judged.result.said c.judge-judged.new.self c.judge-judged.ensures.said c.requires.most c.count.result
    c.count.new.self c.count.ensures c.in_default.is c.take_line.new.self _ _ c.args.out.now.items
    c.take_line.new.out.items _ c.in_ok-take_line.ensures
