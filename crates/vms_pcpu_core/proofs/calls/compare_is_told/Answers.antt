use Rattle.vms_pcpu_core.proofs.Readings.{read_compare-call}
use Rattle.vms_pcpu_core.proofs.calls.compare_is_told.Goals as goal

pub returns : goal.returns
returns c = read_compare-call
