use Rattle.vms_core.proofs.KeptLaws.{laws-kept_before}
use Rattle.vms_core.proofs.laws.laws_are_kept.Goals as goal

pub returns : goal.returns
returns c = laws-kept_before
