use Rattle.vms_plans.proofs.OpenPlans.{plans-open, some-fits}
use Rattle.vms_plans.proofs.laws.plans_stay_open.Goals as goal

pub returns : goal.returns
returns g c = record {
  stays_open = plans-open g.R.ThresholdRules.pressure g.R.ThresholdRules.normal;
  fits = some-fits;
}
