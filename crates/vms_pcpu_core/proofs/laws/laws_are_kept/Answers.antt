use Rattle.vms_pcpu_core.proofs.AllLaws.{laws-kept}
use Rattle.vms_pcpu_core.proofs.laws.laws_are_kept.Goals as goal

pub returns : goal.returns
returns c = laws-kept
