-- The end of a phase that failed, what a boundary line finds, and what comes after it.
use Rattle.std.proofs.lemmas.Result.{err_from_is_err_and}
use Rattle.vms_replay.proofs.PassedBoundaries.{BodyTakes-passed, BodyTakes-unended, found-world}
use Rattle.vms_replay.proofs.bodies.Replay.pass.Goals as goal

pub returns-in_err-end_phase : goal.returns-in_err-end_phase
returns-in_err-end_phase g c =
    let p = err_from_is_err_and c.from_residual.result c.from_residual.ensures.1 in
    rw p.1 (BodyTakes-unended g.E.Engine.Makes c.args.self.now c.end_phase.new.self c.end_phase.new.self _ _
    c.args.header.now c.args.number c.args.boundary c.args.out.now.items c.end_phase.new.out.items
    c.end_phase.new.out.items c.in_err-end_phase.field-0.0 p.0 c.in_err-end_phase.ensures)

pub cross-requires-clause-world : goal.cross-requires-clause-world
cross-requires-clause-world g c =
    found-world g.E.Engine.Makes c.args.self.now c.end_phase.new.self c.end_phase.new.self _ _ c.args.header.now
    c.args.number c.args.boundary c.args.out.now.items c.end_phase.new.out.items
    c.end_phase.new.out.items c.in_ok-end_phase.ensures c.requires.header c.requires.line

pub returns : goal.returns
returns g c =
    BodyTakes-passed g.E.Engine.Makes c.args.self.now c.end_phase.new.self c.cross.new.self _ _ c.args.header.now
    c.args.number c.args.boundary c.args.out.now.items c.end_phase.new.out.items c.cross.new.out.items
    c.in_ok-end_phase.ensures c.requires.header c.cross.result c.cross.ensures
