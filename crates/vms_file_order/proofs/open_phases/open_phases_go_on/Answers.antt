-- A line goes on in each table.
use Rattle.vms_file_order.proofs.OpenPhases.{IsOpenPhase-line}
use Rattle.vms_file_order.proofs.open_phases.open_phases_go_on.Goals as goal

pub returns : goal.returns
returns g c = IsOpenPhase-line g.R.ThresholdRules.pressure g.R.ThresholdRules.normal
