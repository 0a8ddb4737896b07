-- The lanes that have lines, by how they are listed.
use Rattle.vms_world.specs.Common.{has_line}
use Rattle.std.proofs.Common.{◌≡◌, true}
use Rattle.vms_file_order.proofs.LaneLists.{All-lanes, StandOnce-lanes, lines-among_lanes}
use Rattle.vms_file_order.proofs.lanes.lanes_stand_once.Goals as goal

pub returns : goal.returns
returns c = record {
  once = StandOnce-lanes;
  lines = λ shape items. All-lanes (λ lane. has_line lane items ≡ true) items (λ lane has. has) shape;
  among = lines-among_lanes;
}
