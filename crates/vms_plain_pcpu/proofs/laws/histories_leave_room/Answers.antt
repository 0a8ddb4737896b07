-- What the laws of a history say of its numbers.
use Rattle.std.proofs.Common.{[]}
use Rattle.vms_plain_pcpu.proofs.Rooms.{HasLocals-legal, HasRoomFor-legal}
use Rattle.vms_plain_pcpu.proofs.laws.histories_leave_room.Goals as goal

pub returns-clause-room : goal.returns-clause-room
returns-clause-room c facts h j legal j_in =
    HasRoomFor-legal facts h legal (c.laws_are_kept.ensures facts [] h legal) j j_in

pub returns-clause-cpus : goal.returns-clause-cpus
returns-clause-cpus c facts h n legal within =
    HasLocals-legal facts h legal (c.laws_are_kept.ensures facts [] h legal) n within
