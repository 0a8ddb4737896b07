-- The lanes so far are over, and the results of the others are left.
use Rattle.std.proofs.Common.{◌≡◌, length}
use Rattle.std.specs.Vec.Iter.{into_iter_items, into_iter_len}
use Rattle.vms_group_phase.specs.Common.{HaveEndedLanes}
use Rattle.vms_group_phase.proofs.lanes.run_lanes.Given as goal

abbrev pub invariant-loop-result : goal.invariant-loop-result
invariant-loop-result g l =
    HaveEndedLanes l.table l.items l.main l.values.items (into_iter_items l.result-iterator)
    × (into_iter_len l.result-iterator ≡ length (into_iter_items l.result-iterator))
