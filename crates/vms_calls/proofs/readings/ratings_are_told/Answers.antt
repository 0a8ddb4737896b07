use Rattle.vms_calls.specs.Common.{ByNormal, ByPressure}
use Rattle.vms_calls.proofs.RatingReadings.{node-told, refresh-told, burial-told}
use Rattle.vms_calls.proofs.TurnReadings.{turn-told}
use Rattle.vms_calls.proofs.readings.ratings_are_told.Goals as goal

pub returns : goal.returns
returns g c = record {
  pressure = node-told (ByPressure g.R.ThresholdRules.pressure g.R.ThresholdRules.normal);
  normal = node-told (ByNormal g.R.ThresholdRules.normal);
  refresh = refresh-told g.R.ThresholdRules.normal;
  burial = burial-told g.R.ThresholdRules.normal;
  turn = turn-told g.R.ThresholdRules.pressure g.R.ThresholdRules.normal;
}
