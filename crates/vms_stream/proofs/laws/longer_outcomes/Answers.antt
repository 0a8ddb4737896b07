-- More outcomes on the same way.
use Rattle.vms_stream.proofs.MoreOutcomes.{GoesWithMore-all}
use Rattle.vms_stream.proofs.laws.longer_outcomes.Goals as goal

pub returns : goal.returns
returns g c outcomes more lines = GoesWithMore-all g.J.Job.behavior outcomes more lines
