use Rattle.std.proofs.Common.{◌≡◌, take, length, if◌then◌else◌, nat_eq}
use Rattle.std.specs.Prelude.{slice_index_or}
use Rattle.vms_calls.specs.Common.{largest_below, node_of_zone}
use Rattle.vms_cursors.proofs.rating_positions.node_threshold.Given as goal

-- the largest of the zones so far
abbrev pub invariant-loop-zone : goal.invariant-loop-zone
invariant-loop-zone l = l.largest ≡ largest_below (λ g. if nat_eq (node_of_zone l.layout g)
    (slice_index_or l.layout.nodes l.node 0)
    then slice_index_or (take (length l.layout.zones) l.seen.thresholds) g 0 else 0) l.zone
