use Rattle.std.proofs.Common.{◌≡◌, unsigned_abs}
use Rattle.vms_history.specs.Common.{largest_below, counter_at}
use Rattle.vms_core.specs.Common.{diff_at}
use Rattle.vms_page_peaks.proofs.opening.opening_peak.Given as goal

abbrev pub invariant-loop-n : goal.invariant-loop-n
invariant-loop-n l =
    l.largest
    ≡ largest_below (λ n. unsigned_abs (diff_at l.facts.base l.cpu.number
    (counter_at l.facts.layout l.place.number n))) l.n
