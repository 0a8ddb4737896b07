use Rattle.vms_pcpu_core.proofs.Readings.{read_fold_dead-call}
use Rattle.vms_pcpu_core.proofs.calls.fold_dead_is_told.Goals as goal

pub returns : goal.returns
returns c = read_fold_dead-call
