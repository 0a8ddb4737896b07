use Rattle.std.proofs.Common.{◌≡◌, ℕ, ◌<◌, ◌/◌, ◌%◌, length, slice_index_or}
use Rattle.vms_calls.specs.Common.{opening_peak}
use Rattle.vms_words.proofs.kept.opening_peaks.Given as goal

-- the row keeps its length, and its first entries are the peaks of their CPUs and zones
abbrev pub invariant-loop-at : goal.invariant-loop-at
invariant-loop-at l = record {
  same_length : length l.peaks ≡ l.cells;
  done : (n : ℕ) → n < l.at → slice_index_or l.peaks n 0 ≡ opening_peak l.layout l.state (n / l.zones) (n % l.zones);
}
