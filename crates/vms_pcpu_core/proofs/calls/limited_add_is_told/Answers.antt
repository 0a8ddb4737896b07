use Rattle.vms_pcpu_core.proofs.Readings.{read_limited_add-call}
use Rattle.vms_pcpu_core.proofs.calls.limited_add_is_told.Goals as goal

pub returns : goal.returns
returns c = read_limited_add-call
