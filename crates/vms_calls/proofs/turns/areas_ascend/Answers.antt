use Rattle.vms_calls.proofs.AreaItems.{AreasAscend-holds}
use Rattle.vms_calls.proofs.turns.areas_ascend.Goals as goal

pub returns : goal.returns
returns c = AreasAscend-holds
