-- The lanes with lines are of CPUs that are online.
use Rattle.vms_file_order.proofs.FittingOpenings.{IsOpenPhase-fitting}
use Rattle.vms_file_order.proofs.fitting_lines.fitting_phases_open.Goals as goal

pub returns : goal.returns
returns g c header w items start is fits = IsOpenPhase-fitting header start w is items fits
    g.R.ThresholdRules.pressure g.R.ThresholdRules.normal
