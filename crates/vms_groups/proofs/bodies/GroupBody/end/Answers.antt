-- A phase that failed, a last line that couldn't be written, and the end.
use Rattle.std.proofs.lemmas.Result.{err_from_is_err_and}
use Rattle.vms_groups.proofs.BodyLines.{body-closes, body-failed}
use Rattle.vms_groups.proofs.bodies.GroupBody.end.Goals as goal

pub end-requires-clause-phase : goal.end-requires-clause-phase
end-requires-clause-phase g c =
    let inside = c.requires.1.inside in
    (inside.kept, inside.texts, inside.here.after)

pub returns-in_err-end : goal.returns-in_err-end
returns-in_err-end g c =
    let p = err_from_is_err_and c.from_residual.result c.from_residual.ensures.1 in
    rw p.1 (body-failed c.args.self.now c.end.new.self _ _ c.args.out.now.items c.end.new.out.items c.end.result
    c.end.new.out.items p.0 c.end.ensures)

pub returns-in_err-write_done_line : goal.returns-in_err-write_done_line
returns-in_err-write_done_line g c =
    let p = err_from_is_err_and c.from_residual-in_err-write_done_line.result
    c.from_residual-in_err-write_done_line.ensures.1 in
    rw p.1 (body-failed c.args.self.now c.end.new.self _ _ c.args.out.now.items c.write_done_line.new.out.items
    c.end.result c.end.new.out.items p.0 c.end.ensures)

pub returns : goal.returns
returns g c =
    body-closes c.args.self.now c.end.new.self _ _ c.args.out.now.items c.write_done_line.new.out.items
    c.end.new.out.items c.in_ok-end.ensures c.status_at_end.result c.status_at_end.ensures
    c.in_ok-write_done_line.ensures.ok
