use Rattle.vms_script.proofs.BodySegments.{BoundariesCut-holds}
use Rattle.vms_script.proofs.laws.boundaries_cut.Goals as goal

pub returns : goal.returns
returns c = BoundariesCut-holds
