use Rattle.vms_pcpu_core.proofs.Readings.{past_add-call}
use Rattle.vms_pcpu_core.proofs.calls.add_is_told.Goals as goal

pub returns : goal.returns
returns c = past_add-call
