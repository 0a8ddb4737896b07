-- Each visit leaves the mark that its rules choose.
use Rattle.vms_calls.specs.Common.{ByNormal, ByPressure}
use Rattle.vms_drift.proofs.RatedMarks.{marked-leaves, visit-leaves}
use Rattle.vms_drift.proofs.marks.visits_leave_marks.Goals as goal

pub returns : goal.returns
returns g c = record {
  refresh = visit-leaves (ByNormal g.R.ThresholdRules.normal);
  normal = marked-leaves (ByNormal g.R.ThresholdRules.normal);
  pressure = marked-leaves (ByPressure g.R.ThresholdRules.pressure g.R.ThresholdRules.normal);
}
