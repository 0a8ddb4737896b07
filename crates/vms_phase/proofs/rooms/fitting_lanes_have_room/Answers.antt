use Rattle.vms_phase.proofs.LaneRooms.{LeaveRoom-fitting}
use Rattle.vms_phase.proofs.rooms.fitting_lanes_have_room.Goals as goal

pub returns : goal.returns
returns c header w start items is fits cpu c_in = LeaveRoom-fitting header w start items is fits cpu c_in
