use Rattle.std.proofs.Common.{◌≡◌, ◌++◌, drop}
use Rattle.vms_script.specs.Common.{lane_items}
use Rattle.vms_script.proofs.phase_scripts.items_of_lane.Given as goal

abbrev pub invariant-loop-item : goal.invariant-loop-item
invariant-loop-item l =
    l.found.items ++ lane_items l.lane (drop l.item-index l.items) ≡ lane_items l.lane l.items
