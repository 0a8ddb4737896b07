use Rattle.vms_plans.proofs.PageRuns.{plans-are_calls}
use Rattle.vms_plans.proofs.laws.plans_are_the_calls.Goals as goal

pub returns : goal.returns
returns g c = plans-are_calls g.R.ThresholdRules.pressure g.R.ThresholdRules.normal
