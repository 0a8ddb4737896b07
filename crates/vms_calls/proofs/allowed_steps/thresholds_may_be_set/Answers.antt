use Rattle.vms_calls.specs.Common.{ByNormal, ByPressure}
use Rattle.vms_calls.proofs.BurialCalls.{burial-may}
use Rattle.vms_calls.proofs.ChoiceRanges.{normal-gives, pressure-gives}
use Rattle.vms_calls.proofs.ControlCalls.{rating-may, node-may, refresh-may}
use Rattle.vms_calls.proofs.TurnRuns.{turn-may}
use Rattle.vms_calls.proofs.allowed_steps.thresholds_may_be_set.Goals as goal

pub returns : goal.returns
returns g c = record {
  pressure_zone = λ pressures normals.
      rating-may (ByPressure g.R.ThresholdRules.pressure g.R.ThresholdRules.normal)
      (pressure-gives g.R.ThresholdRules.pressure g.R.ThresholdRules.normal pressures normals);
  normal_zone = λ normals. rating-may (ByNormal g.R.ThresholdRules.normal)
      (normal-gives g.R.ThresholdRules.normal normals);
  pressure = λ pressures normals.
      node-may (ByPressure g.R.ThresholdRules.pressure g.R.ThresholdRules.normal)
      (pressure-gives g.R.ThresholdRules.pressure g.R.ThresholdRules.normal pressures normals);
  normal = λ normals. node-may (ByNormal g.R.ThresholdRules.normal) (normal-gives g.R.ThresholdRules.normal normals);
  refresh = refresh-may g.R.ThresholdRules.normal;
  burial = burial-may g.R.ThresholdRules.normal;
  turn = turn-may g.R.ThresholdRules.pressure g.R.ThresholdRules.normal;
}
