use Rattle.std.proofs.Common.{◌≡◌, nat_eq, get_or, if◌then◌else◌}
use Rattle.vms_world.specs.Common.{largest_below, node_of_zone}
use Rattle.vms_hotplug.proofs.settings.node_threshold.Given as goal

-- the largest of the zones so far
abbrev pub invariant-loop-g : goal.invariant-loop-g
invariant-loop-g l = l.largest
    ≡ largest_below (λ n. if nat_eq (node_of_zone l.layout n) l.node then get_or l.thresholds n 0 else 0) l.g
