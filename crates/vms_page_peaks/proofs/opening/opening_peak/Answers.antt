-- The loop ends at the number of positions.
use Rattle.std.proofs.Common.{◌≡◌, arith}
use Rattle.vms_page_peaks.proofs.opening.opening_peak.Goals as goal

pub returns : goal.returns
returns c =
    let all : c.loop-n.n ≡ c.args.facts.now.layout.positions = omega (arith, c.positions-n-end.ensures.value) in
    let largest = rw all at c.loop-n.invariant in
    omega (arith, c.max.ensures, largest, c.threshold_at-threshold.ensures.t)
