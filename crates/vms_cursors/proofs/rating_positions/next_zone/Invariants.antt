use Rattle.std.proofs.Common.{◌≡◌, ◌-◌, ◌<◌, ◌≤◌, ℕ, false, length}
use Rattle.vms_cursors.specs.RatingCalls.{visited_from, visits}
use Rattle.vms_cursors.proofs.rating_positions.next_zone.Given as goal

-- the zones so far are not visited
abbrev pub invariant-loop-zone : goal.invariant-loop-zone
invariant-loop-zone l = record {
  same : visited_from l.layout l.call l.from (length l.layout.zones - l.from)
      ≡ visited_from l.layout l.call l.zone (length l.layout.zones - l.zone);
  none : (g : ℕ) → l.from ≤ g → g < l.zone → visits l.layout l.call g ≡ false;
}
