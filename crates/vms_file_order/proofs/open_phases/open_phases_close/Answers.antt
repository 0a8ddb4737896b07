-- A phase closes in each table.
use Rattle.vms_file_order.proofs.OpenPhases.{EndsIn-closing, IsFileOrderPhase-closing}
use Rattle.vms_file_order.proofs.open_phases.open_phases_close.Goals as goal

pub returns : goal.returns
returns g c = record {
  order = IsFileOrderPhase-closing g.R.ThresholdRules.pressure g.R.ThresholdRules.normal;
  left = EndsIn-closing g.R.ThresholdRules.pressure g.R.ThresholdRules.normal;
}
