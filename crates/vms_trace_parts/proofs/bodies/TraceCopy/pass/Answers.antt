-- The part so far was added, and the next one begins.
use Rattle.std.proofs.Common.{refl}
use Rattle.vms_trace_parts.proofs.HeldParts.{TakesLine-boundary}
use Rattle.vms_trace_parts.proofs.bodies.TraceCopy.pass.Goals as goal

pub returns : goal.returns
returns c = TakesLine-boundary c.args.self.now c.args.header.now _ c.args.number c.args.boundary _ _
    c.in_ok-end_part.ensures.added refl c.in_ok-end_part.ensures.emptied
