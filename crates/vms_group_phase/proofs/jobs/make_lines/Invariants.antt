-- Those of the lines so far were made that are of the lane.
use Rattle.std.proofs.Common.{take}
use Rattle.vms_group_phase.specs.Common.{RunsLines, lane_lines}
use Rattle.vms_group_phase.proofs.jobs.make_lines.Given as goal

abbrev pub invariant-loop-item : goal.invariant-loop-item
invariant-loop-item g l =
    RunsLines l.table.facts (lane_lines l.cpu.number (take l.item-index l.items)) l.values.items l.pass l.fn.pass
