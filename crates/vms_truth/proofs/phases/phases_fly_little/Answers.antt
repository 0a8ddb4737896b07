-- What each call has in flight, and nothing between two.
use Rattle.vms_truth.proofs.FlightInPhases.{phases-fly_little}
use Rattle.vms_truth.proofs.phases.phases_fly_little.Goals as goal

pub returns : goal.returns
returns g c = phases-fly_little g.R.ThresholdRules.pressure g.R.ThresholdRules.normal
    c.calls_fly_little.ensures.inside c.calls_carry_little.ensures.between
