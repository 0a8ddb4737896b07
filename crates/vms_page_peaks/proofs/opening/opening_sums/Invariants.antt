use Rattle.std.proofs.Common.{◌≡◌, ◌<◌, ℕ, [], get_or, length}
use Rattle.vms_core.specs.Common.{peak_sum}
use Rattle.vms_page_peaks.proofs.opening.opening_sums.Given as goal

abbrev pub invariant-loop-zone : goal.invariant-loop-zone
invariant-loop-zone l = record {
  one_each : length l.sums ≡ length l.facts.layout.zones;
  each : (g : ℕ) → g < l.zone → get_or l.sums g 0 ≡ peak_sum l.facts g [];
}
