-- Every segment of a run leads to a world of the header.
use Rattle.vms_world.proofs.WayEnds.{IsWorldOf-run}
use Rattle.vms_world.proofs.laws.runs_keep_worlds.Goals as goal

pub returns : goal.returns
returns g c header segments hss last valid gives run = IsWorldOf-run header g.R.ThresholdRules.pressure
    g.R.ThresholdRules.normal gives valid segments hss last run
