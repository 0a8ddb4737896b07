use Rattle.vms_percpu_near.proofs.FarOff.{far-off}
use Rattle.vms_percpu_near.proofs.counts.count_bound_is_reached.Goals as goal

pub returns : goal.returns
returns c = far-off
