-- The last part was added, or memory ran out.
use Rattle.std.proofs.lemmas.Result.{err_from_is_err_and}
use Rattle.vms_trace_parts.proofs.HeldParts.{ClosesBody-ended, ClosesBody-failed}
use Rattle.vms_trace_parts.proofs.bodies.TraceCopyBody.end.Goals as goal

pub returns-in_err-end_part : goal.returns-in_err-end_part
returns-in_err-end_part c =
    let p = err_from_is_err_and c.from_residual.result c.from_residual.ensures.1 in
    ClosesBody-failed c.args.self.now c.args.header.now _ _ c.args._accepted c.args.refused c.args._out.now.items
    c.from_residual.result p.0 p.1 c.in_err-end_part.ensures.added

pub returns : goal.returns
returns c = ClosesBody-ended c.args.self.now c.args.header.now _ _ c.args._accepted c.args.refused
    c.args._out.now.items c.status_at_end.result c.in_ok-end_part.ensures.added c.status_at_end.ensures
