-- Of the lines that are left those of the lane go on from what was made so far.
use Rattle.std.proofs.Common.{drop, map, vec_capacity, vec_len}
use Rattle.vms_answers.specs.Common.{answer_of_kept}
use Rattle.vms_world.specs.Common.{lane_items}
use Rattle.vms_lane.proofs.ScriptTurns.{MadeSoFar}
use Rattle.vms_lane.proofs.lane_runs.run_lane.Given as goal

abbrev pub invariant-loop-item : goal.invariant-loop-item
invariant-loop-item g l =
    MadeSoFar l.header (g.P.Rule.answers l.rules.pressure) (g.N.Rule.answers l.rules.normal) l.tables l.lane l.lines
    (lane_items l.own (drop l.item-index l.item-items)) l.passes l.fn.passes (map answer_of_kept l.answers.items)
    (vec_len l.answers) (vec_capacity l.answers)
