use Rattle.std.proofs.Common.{◌≡◌, ℕ, ◌≤◌, ◌<◌, ◌/◌, ◌%◌, length, get_or}
use Rattle.vms_calls.specs.Common.{most_threshold, opening_peak}
use Rattle.vms_plain_control.proofs.peaks.Peaks.make.Given as goal

-- the peaks of the cells so far
abbrev pub invariant-loop-cell : goal.invariant-loop-cell
invariant-loop-cell l = record {
  length : length l.largest.items ≡ l.cell;
  each : (n : ℕ) → n < l.cell → get_or l.largest.items n 0 ≡ opening_peak l.layout l.state (n / l.zones) (n % l.zones);
  most : (n : ℕ) → n < l.cell → get_or l.largest.items n 0 ≤ most_threshold;
}
