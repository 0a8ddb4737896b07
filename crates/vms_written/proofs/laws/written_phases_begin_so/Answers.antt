-- Act by act.
use Rattle.vms_written.proofs.Beginnings.{BeginsWrittenPhase-first}
use Rattle.vms_written.proofs.laws.written_phases_begin_so.Goals as goal

pub returns : goal.returns
returns g c header s items more h is =
    BeginsWrittenPhase-first header g.R.ThresholdRules.pressure g.R.ThresholdRules.normal s items more h is
