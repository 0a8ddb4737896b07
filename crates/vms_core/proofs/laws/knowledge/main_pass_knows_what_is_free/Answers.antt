use Rattle.vms_core.proofs.FreeCpus.{cpu-stands, settings-stand}
use Rattle.vms_core.proofs.laws.knowledge.main_pass_knows_what_is_free.Goals as goal

pub returns : goal.returns
returns c = record { cpu = cpu-stands; control = settings-stand }
