-- A phase that failed, a last line that couldn't be written, and the end.
use Rattle.std.proofs.lemmas.Result.{err_from_is_err_and}
use Rattle.vms_replay.proofs.PassedBoundaries.{ClosesBody-ended, ClosesBody-failed}
use Rattle.vms_replay.proofs.bodies.ReplayBody.end.Goals as goal

pub returns-in_err-end_phase : goal.returns-in_err-end_phase
returns-in_err-end_phase g c =
    let p = err_from_is_err_and c.from_residual.result c.from_residual.ensures.1 in
    rw p.1 (ClosesBody-failed g.E.Engine.Makes c.args.self.now c.end_phase.new.self _ _ c.args.header.now
    c.args.accepted c.args.refused c.args.out.now.items c.end_phase.new.out.items c.end_phase.new.out.items
    _ p.0 c.in_err-end_phase.ensures)

pub returns-in_err-write_done_line : goal.returns-in_err-write_done_line
returns-in_err-write_done_line g c =
    let p = err_from_is_err_and c.from_residual-in_err-write_done_line.result
    c.from_residual-in_err-write_done_line.ensures.1 in
    rw p.1 (ClosesBody-failed g.E.Engine.Makes c.args.self.now c.end_phase.new.self _ _ c.args.header.now
    c.args.accepted c.args.refused c.args.out.now.items c.end_phase.new.out.items c.write_done_line.new.out.items
    _ p.0 c.in_ok-end_phase.ensures)

pub returns : goal.returns
returns g c =
    ClosesBody-ended g.E.Engine.Makes c.args.self.now c.end_phase.new.self _ _ c.args.header.now c.args.accepted
    c.args.refused c.args.out.now.items c.end_phase.new.out.items c.write_done_line.new.out.items
    c.in_ok-end_phase.ensures c.status_at_end.result c.status_at_end.ensures c.in_ok-write_done_line.ensures.ok
