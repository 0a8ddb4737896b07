-- The values stand in the lane's place, and all others as before.
use Rattle.vms_group_phase.proofs.EndedLanes.{values_of-set}
use Rattle.vms_group_phase.proofs.lanes.join_lane.Goals as goal

pub returns-clause-values : goal.returns-clause-values
returns-clause-values c lane =
    values_of-set c.args.values.now.items c.args.done.cpu.number lane (record { items = c.args.done.values })
    c.requires.place
