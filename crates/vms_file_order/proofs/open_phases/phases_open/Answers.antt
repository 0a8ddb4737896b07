-- A phase opens in each table.
use Rattle.vms_file_order.proofs.OpenPhases.{IsOpenPhase-opening}
use Rattle.vms_file_order.proofs.open_phases.phases_open.Goals as goal

pub returns : goal.returns
returns g c = IsOpenPhase-opening g.R.ThresholdRules.pressure g.R.ThresholdRules.normal
