-- Each zone has a sum, of which its peak is a part.
use Rattle.std.proofs.Common.{arith}
use Rattle.vms_page_peaks.proofs.steps.take_out.Goals as goal

pub get-requires : goal.get-requires
get-requires c =
    let zones = c.loop-zone.invariant.zones in
    let within = c.loop-zone-test.true in
    let end = c.len-zone-end.ensures.len in
    omega arith
