use Rattle.std.proofs.Common.{◌≡◌, ◌++◌, List, length}
use Rattle.vms_text.specs.Writing.{Begins}
use Rattle.vms_world.specs.Common.{Lane}
use Rattle.vms_phase_lines.specs.Common.{event_lines}
use Rattle.vms_phase_lines.proofs.Closings.{ended_first}
use Rattle.vms_phase_lines.proofs.lanes.LanePasses.end.Given as goal

-- the lines of the first passes' ends are written
abbrev pub invariant-loop-ended : goal.invariant-loop-ended
invariant-loop-ended l = record {
  begun : Begins l.fn.out.items l.out.items;
  lines : (lanes : List Lane) → l.self.begun ≡ length lanes
      → l.out.items ≡ l.fn.out.items ++ event_lines (ended_first lanes l.ended);
}
