use Rattle.std.proofs.Common.{◌≡◌, ◌≤◌, max, unsigned_abs}
use Rattle.vms_calls.specs.Common.{counter_at, most_threshold, largest_below, diff_at, threshold_at}
use Rattle.vms_plain_control.proofs.peaks.opening_peak.Given as goal

-- the largest of the threshold and of the differentials so far
abbrev pub invariant-loop-position : goal.invariant-loop-position
invariant-loop-position l = record {
  value : l.peak ≡ max (threshold_at l.state l.cpu.number l.zone.number)
      (largest_below (λ n. unsigned_abs (diff_at l.state l.cpu.number (counter_at l.layout l.zone.number n)))
      l.position);
  most : l.peak ≤ most_threshold;
}
