use Rattle.vms_pcpu_core.proofs.Readings.{read_count-call}
use Rattle.vms_pcpu_core.proofs.calls.read_is_told.Goals as goal

pub returns : goal.returns
returns c = read_count-call
