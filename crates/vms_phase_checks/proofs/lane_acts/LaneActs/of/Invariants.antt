use Rattle.std.proofs.Common.{map, take}
use Rattle.vms_phase_checks.specs.Common.{AreLaneActs}
use Rattle.vms_phase_checks.proofs.lane_acts.LaneActs.of.Given as goal

-- the acts of the lines so far
abbrev pub invariant-loop-item : goal.invariant-loop-item
invariant-loop-item l =
    AreLaneActs l.cpus (take l.item-index l.items) (map (λ lane. lane.items) l.lanes.items)
