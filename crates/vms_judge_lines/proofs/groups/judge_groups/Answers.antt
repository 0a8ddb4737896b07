-- What is said with so much room is what is to be said of the tree.
use Rattle.vms_judge_lines.proofs.Rooms.{IfOk-bounded}
use Rattle.vms_judge_lines.proofs.groups.judge_groups.Goals as goal

pub returns : goal.returns
returns c =
    IfOk-bounded c.room_is_all_that_is_asked.ensures c.args.facts c.args.events.now c.judge_each.result
    c.judge_each.ensures
