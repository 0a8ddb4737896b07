use Rattle.vms_pcpu_core.proofs.Sizes.{step_number-small}
use Rattle.vms_pcpu_core.proofs.laws.steps_name_small_numbers.Goals as goal

pub returns : goal.returns
returns c = step_number-small
