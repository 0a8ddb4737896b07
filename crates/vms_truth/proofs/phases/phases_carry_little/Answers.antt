-- What each call carries, and nothing between two.
use Rattle.vms_truth.proofs.CarriedInPhases.{phases-carry_little}
use Rattle.vms_truth.proofs.phases.phases_carry_little.Goals as goal

pub returns : goal.returns
returns g c = phases-carry_little g.R.ThresholdRules.pressure g.R.ThresholdRules.normal
    c.calls_carry_little.ensures.inside c.calls_carry_little.ensures.between
