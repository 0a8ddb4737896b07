-- A line that counts is one of its header, so its lane may be kept.
use Rattle.std.proofs.Common.{subst, sym}
use Rattle.vms_script.specs.Common.{MayKeep}
use Rattle.vms_script.proofs.Common.{judged-known, may_keep}
use Rattle.vms_trace_parts.proofs.bodies.TraceCopy.take.Goals as goal

pub keep-requires : goal.keep-requires
keep-requires c =
    let some = c.requires.line in
    subst MayKeep c.in-Lane.is (may_keep c.args.header.now c.args.line.now c.requires.header
    (judged-known c.args.header.now some.above.lines some.judged.0 c.args.line.now c.requires.header
    (sym some.judged.1)))
