-- What holds inside each call, and after it.
use Rattle.vms_drift.proofs.CallTransit.{between-nothing, inside-little}
use Rattle.vms_drift.proofs.transit.calls_carry_little.Goals as goal

pub returns : goal.returns
returns g c = record {
  inside = inside-little g.R.ThresholdRules.pressure g.R.ThresholdRules.normal;
  between = between-nothing g.R.ThresholdRules.pressure g.R.ThresholdRules.normal
      c.page_calls_keep_their_laws.ensures.spends;
}
