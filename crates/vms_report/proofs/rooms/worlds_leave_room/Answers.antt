-- A world's words begin a history, after which the laws hold.
use Rattle.vms_world.specs.Common.{event_facts}
use Rattle.std.proofs.Common.{[]}
use Rattle.vms_report.proofs.rooms.worlds_leave_room.Goals as goal

pub returns-clause-sums : goal.returns-clause-sums
returns-clause-sums c header w k of k_in =
    c.histories_leave_room.ensures.sums (event_facts header w) [] k of.event_base k_in
