use Rattle.vms_core.proofs.NumberChanges.{numbers-change}
use Rattle.vms_core.proofs.laws.steps_change_numbers.Goals as goal

pub returns : goal.returns
returns c = numbers-change
