-- The first start, and the world that a run begins with.
use Rattle.vms_file_order.proofs.WorldStarts.{IsStartOf-first}
use Rattle.vms_file_order.proofs.world_starts.runs_begin_with_first_start.Goals as goal

pub returns : goal.returns
returns g c header zones valid gives are =
    IsStartOf-first header valid g.R.ThresholdRules.normal gives zones are
