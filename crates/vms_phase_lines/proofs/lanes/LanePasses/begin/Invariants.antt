use Rattle.vms_world.specs.Common.{lanes_below}
use Rattle.vms_phase_lines.specs.Common.{OpensLanes}
use Rattle.vms_phase_lines.proofs.lanes.LanePasses.begin.Given as goal

-- the passes of the lanes so far have begun
abbrev pub invariant-loop-number : goal.invariant-loop-number
invariant-loop-number l = OpensLanes l.header (lanes_below l.number l.items) l.lanes l.fn.out.items l.out.items
