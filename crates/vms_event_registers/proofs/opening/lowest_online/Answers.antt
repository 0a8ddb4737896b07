-- Some CPU is online.
use Rattle.std.proofs.Common.{arith}
use Rattle.vms_event_registers.proofs.opening.lowest_online.Goals as goal

pub returns : goal.returns
returns c =
    let some = c.requires.some_online in
    let within = some.1 in
    absurd (c.loop-number.invariant some.0 (omega arith) some.2)
