-- The rules differ by the room alone.
use Rattle.vms_group_registers.proofs.BoundedHistories.{legal-of, legal-to, room-of}
use Rattle.vms_group_registers.proofs.laws.room_is_all_that_is_asked.Goals as goal

pub returns : goal.returns
returns c = λ facts h. (
  λ may. (legal-of facts h may, room-of facts h may),
  λ may. legal-to facts h may.0 may.1,
)
