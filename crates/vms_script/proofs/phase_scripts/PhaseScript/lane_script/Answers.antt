-- the lines of a lane make a script
use Rattle.std.proofs.Common.{sym, subst}
use Rattle.vms_script.specs.Common.{IsLaneScript, IsPhaseScript}
use Rattle.vms_script.proofs.LaneItems.{IsLaneScript-of}
use Rattle.vms_script.proofs.phase_scripts.PhaseScript.lane_script.Goals as goal

pub make-requires : goal.make-requires
make-requires c =
    subst IsLaneScript (sym c.in_ok-items.ensures)
    (IsLaneScript-of c.args.lane c.as_slice.result.now
    (subst IsPhaseScript (sym c.as_slice.ensures.value) c.self.invariant))
