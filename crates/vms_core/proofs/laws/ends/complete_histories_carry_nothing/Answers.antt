use Rattle.vms_core.proofs.CarriedNothing.{ended-carry_nothing}
use Rattle.vms_core.proofs.laws.ends.complete_histories_carry_nothing.Goals as goal

pub returns : goal.returns
returns c = ended-carry_nothing
