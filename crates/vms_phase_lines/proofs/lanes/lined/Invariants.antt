use Rattle.std.proofs.Common.{take}
use Rattle.vms_phase_lines.specs.Common.{ShowsLined}
use Rattle.vms_phase_lines.proofs.lanes.lined.Given as goal

-- the lanes of the lines so far
abbrev pub invariant-loop-item : goal.invariant-loop-item
invariant-loop-item l = ShowsLined l.header (take l.item-index l.items) l.lined
