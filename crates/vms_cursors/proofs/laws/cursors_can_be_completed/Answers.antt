-- The plan at each position is open, and for each step that is due there is one that fits.
use Rattle.vms_cursors.proofs.OpenCursors.{cursor-ends, cursor-ends_online, cursor-open}
use Rattle.vms_cursors.proofs.laws.cursors_can_be_completed.Goals as goal

pub returns-clause-stays_open : goal.returns-clause-stays_open
returns-clause-stays_open g c = λ header base p h cursor.
    cursor-open header base p g.R.ThresholdRules.pressure g.R.ThresholdRules.normal h cursor

pub returns-clause-completed : goal.returns-clause-completed
returns-clause-completed g c = λ header base p h cursor rules.
    cursor-ends header base p g.R.ThresholdRules.pressure g.R.ThresholdRules.normal h
    c.plans_stay_open.ensures.fits rules cursor

pub returns-clause-completed_online : goal.returns-clause-completed_online
returns-clause-completed_online g c = λ header base p h cursor valid within may rules.
    cursor-ends_online header base p g.R.ThresholdRules.pressure g.R.ThresholdRules.normal h valid
    c.plans_stay_open.ensures.fits rules cursor within may
