-- Two behaviors that differ in their start.
use Rattle.vms_stream.proofs.MoreOutcomes.{AgreesFrom-all}
use Rattle.vms_stream.proofs.laws.outcomes_stand_in_way.Goals as goal

pub returns : goal.returns
returns g c outcomes others way lines = AgreesFrom-all g.J.Job.behavior outcomes others way lines
