-- The lanes so far have given their volumes back.
use Rattle.std.proofs.Common.{take}
use Rattle.vms_phase.specs.Common.{AreGivenBack}
use Rattle.vms_phase.proofs.volumes.keep_volumes.Given as goal

abbrev pub invariant-loop-lane : goal.invariant-loop-lane
invariant-loop-lane l = AreGivenBack l.header (take l.lane-index l.lanes) l.volumes l.initial.volumes
