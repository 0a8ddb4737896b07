use Rattle.vms_pcpu_core.proofs.Readings.{read_sync-call}
use Rattle.vms_pcpu_core.proofs.calls.sync_is_told.Goals as goal

pub returns : goal.returns
returns c = read_sync-call
