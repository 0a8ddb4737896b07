-- Each boundary leads to a world of the header.
use Rattle.vms_world.proofs.Crossings.{IsWorldOf-crossed}
use Rattle.vms_world.proofs.laws.boundaries_keep_worlds.Goals as goal

pub returns : goal.returns
returns g c header boundary w next gives of may crosses =
    IsWorldOf-crossed header g.R.ThresholdRules.normal w next of gives boundary may crosses
