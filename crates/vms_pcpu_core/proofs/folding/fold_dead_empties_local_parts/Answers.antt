use Rattle.vms_pcpu_core.proofs.FoldedCpus.{folded-none}
use Rattle.vms_pcpu_core.proofs.folding.fold_dead_empties_local_parts.Goals as goal

pub returns : goal.returns
returns c = folded-none
