use Rattle.vms_pcpu_core.proofs.Readings.{read_sum-call}
use Rattle.vms_pcpu_core.proofs.calls.sum_is_told.Goals as goal

pub returns : goal.returns
returns c = read_sum-call
