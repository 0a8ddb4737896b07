-- Lane by lane.
use Rattle.vms_phase_checks.proofs.KeptPhases.{AreOver-written, IsWrittenPhase-over}
use Rattle.vms_phase_checks.proofs.laws.kept_phases_are_written.Goals as goal

pub returns : goal.returns
returns g c header s items h keeps = (
  λ is. AreOver-written g.W.LaneWalk.pressure g.W.LaneWalk.normal header s items h is,
  λ are. IsWrittenPhase-over g.W.LaneWalk.pressure g.W.LaneWalk.normal header s items h keeps are,
)
