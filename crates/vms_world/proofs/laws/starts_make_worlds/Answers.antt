-- The world that a run begins with belongs to its header.
use Rattle.vms_world.proofs.FirstWorlds.{IsWorldOf-start}
use Rattle.vms_world.proofs.laws.starts_make_worlds.Goals as goal

pub returns : goal.returns
returns g c header zones valid gives are = IsWorldOf-start header valid g.R.ThresholdRules.normal gives zones are
