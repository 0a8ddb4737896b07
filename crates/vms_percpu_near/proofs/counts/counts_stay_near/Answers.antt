use Rattle.vms_percpu_near.proofs.CarriedParts.{counts-near}
use Rattle.vms_percpu_near.proofs.counts.counts_stay_near.Goals as goal

pub returns : goal.returns
returns c = counts-near
