-- What holds inside each call.
use Rattle.vms_near.proofs.CallFlight.{calls-fly_little}
use Rattle.vms_near.proofs.flight.calls_fly_little.Goals as goal

pub returns : goal.returns
returns g c = record {
  inside = calls-fly_little g.R.ThresholdRules.pressure g.R.ThresholdRules.normal c.calls_carry_little.ensures.inside;
}
