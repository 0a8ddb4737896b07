use Rattle.vms_calls.proofs.TurnThresholds.{LeavesNormal-holds, LeavesPressure-holds}
use Rattle.vms_calls.proofs.turns.turns_leave_rules.Goals as goal

pub returns : goal.returns
returns g c = record {
  after_yes = LeavesNormal-holds g.R.ThresholdRules.pressure g.R.ThresholdRules.normal;
  after_no = LeavesPressure-holds g.R.ThresholdRules.pressure g.R.ThresholdRules.normal;
}
