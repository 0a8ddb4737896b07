use Rattle.vms_core.proofs.ControlSteps.{SetsThreshold-goes_on, SetsMark-goes_on, SetsAbsent-taken}
use Rattle.vms_core.proofs.laws.knowledge.control_steps_stay_allowed.Goals as goal

pub returns : goal.returns
returns c = record { threshold = SetsThreshold-goes_on; mark = SetsMark-goes_on; absent = SetsAbsent-taken }
