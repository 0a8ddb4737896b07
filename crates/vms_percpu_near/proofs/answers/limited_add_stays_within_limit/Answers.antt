use Rattle.vms_percpu_near.proofs.Limits.{limited-stays}
use Rattle.vms_percpu_near.proofs.answers.limited_add_stays_within_limit.Goals as goal

pub returns : goal.returns
returns c = limited-stays
