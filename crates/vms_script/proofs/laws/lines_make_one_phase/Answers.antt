use Rattle.vms_script.proofs.BodySegments.{LinesMakeOnePhase-holds}
use Rattle.vms_script.proofs.laws.lines_make_one_phase.Goals as goal

pub returns : goal.returns
returns c = LinesMakeOnePhase-holds
