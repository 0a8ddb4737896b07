-- Histories that make the lines of a phase, with the two conditions.
use Rattle.vms_file_order.proofs.PhasesInOrder.{IsWorldPhase-made}
use Rattle.vms_file_order.proofs.phases.made_phases_are_phases.Goals as goal

pub returns : goal.returns
returns g c header w items hs phase = IsWorldPhase-made g.R.ThresholdRules.pressure g.R.ThresholdRules.normal header w
    items hs phase (c.phases_spend_their_lines.ensures.ended header w items hs phase)
