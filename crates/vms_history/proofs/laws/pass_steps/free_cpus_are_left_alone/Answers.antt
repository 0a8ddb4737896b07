use Rattle.vms_history.proofs.FreeOwners.{no_owner_acts}
use Rattle.vms_history.proofs.laws.pass_steps.free_cpus_are_left_alone.Goals as goal

pub returns : goal.returns
returns g c facts h who free = no_owner_acts g.T.Table.machine facts h who free
