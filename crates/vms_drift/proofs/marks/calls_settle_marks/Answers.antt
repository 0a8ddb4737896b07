-- Each call settles the mark that its rules choose.
use Rattle.vms_calls.specs.Common.{ByNormal, ByPressure}
use Rattle.vms_drift.proofs.LeftMarks.{node-settles, refresh-settles}
use Rattle.vms_drift.proofs.marks.calls_settle_marks.Goals as goal

pub returns : goal.returns
returns g c =
    let know = c.control_passes_know_by_own_steps.ensures in
    record {
      refresh = refresh-settles know (g.R.ThresholdRules.normal);
      normal = node-settles know (ByNormal g.R.ThresholdRules.normal);
      pressure = node-settles know (ByPressure g.R.ThresholdRules.pressure g.R.ThresholdRules.normal);
    }
