use Rattle.std.proofs.Common.{◌≡◌, ◌≤◌, max, unsigned_abs}
use Rattle.vms_world.specs.Common.{counter_at, most_threshold, largest_below, diff_at, threshold_at}
use Rattle.vms_hotplug.proofs.settings.opening_peak.Given as goal

-- the largest of the threshold and of the differentials so far
abbrev pub invariant-loop-position : goal.invariant-loop-position
invariant-loop-position l = record {
  value : l.peak ≡ max (threshold_at l.pages l.cpu.number l.zone)
      (largest_below (λ n. unsigned_abs (diff_at l.pages l.cpu.number (counter_at l.layout l.zone n))) l.position);
  most : l.peak ≤ most_threshold;
}
