-- The lines so far are counted.
use Rattle.std.proofs.Common.{drop}
use Rattle.vms_lane.proofs.CountedLanes.{CountedSoFar}
use Rattle.vms_lane.proofs.counted_lines.count_lines.Given as goal

abbrev pub invariant-loop-item : goal.invariant-loop-item
invariant-loop-item l = CountedSoFar l.cpus l.items (drop l.item-index l.items) l.counts
