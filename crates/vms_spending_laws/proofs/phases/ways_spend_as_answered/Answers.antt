-- Phase by phase.
use Rattle.vms_spending_laws.proofs.WaySpending.{SpendInAll-led}
use Rattle.vms_spending_laws.proofs.phases.ways_spend_as_answered.Goals as goal

pub returns : goal.returns
returns g c header segments hss w last known ascend through =
    SpendInAll-led header g.R.ThresholdRules.pressure g.R.ThresholdRules.normal
    (c.phases_spend_as_answered.ensures header) segments hss w last known ascend through
