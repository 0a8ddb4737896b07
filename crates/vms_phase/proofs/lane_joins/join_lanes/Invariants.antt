-- The lanes so far have ended, and the results of the others are left.
use Rattle.std.proofs.Common.{◌≡◌, length}
use Rattle.std.specs.Vec.Iter.{into_iter_items, into_iter_len}
use Rattle.vms_tables.specs.Common.{mains_of}
use Rattle.vms_world.specs.Common.{lanes_of}
use Rattle.vms_phase.specs.Common.{HaveJoinedLanes}
use Rattle.vms_phase.proofs.lane_joins.join_lanes.Given as goal

abbrev pub invariant-loop-result : goal.invariant-loop-result
invariant-loop-result g l =
    HaveJoinedLanes l.plan.header.now (g.P.Rule.answers l.rules.pressure) (g.N.Rule.answers l.rules.normal)
    l.plan.tables.now l.plan.world.now l.plan.lines.now (lanes_of l.plan.header.now.layout l.plan.lines.now)
    (mains_of l.mains) l.lanes.items (into_iter_items l.result-iterator)
    × (into_iter_len l.result-iterator ≡ length (into_iter_items l.result-iterator))
