use Rattle.vms_calls.specs.Common.{ByNormal, ByPressure}
use Rattle.vms_calls.proofs.OnlineFound.{node-online, refresh-online, burial-online, turn-online}
use Rattle.vms_calls.proofs.readings.ratings_find_a_cpu.Goals as goal

pub returns : goal.returns
returns g c = record {
  pressure = node-online (ByPressure g.R.ThresholdRules.pressure g.R.ThresholdRules.normal);
  normal = node-online (ByNormal g.R.ThresholdRules.normal);
  refresh = refresh-online g.R.ThresholdRules.normal;
  burial = burial-online g.R.ThresholdRules.normal;
  turn = turn-online g.R.ThresholdRules.pressure g.R.ThresholdRules.normal;
}
