use Rattle.vms_pcpu_core.proofs.KnowledgeKept.{rough-sign}
use Rattle.vms_pcpu_core.proofs.knowledge.rough_sign_is_true.Goals as goal

pub returns : goal.returns
returns c = rough-sign
