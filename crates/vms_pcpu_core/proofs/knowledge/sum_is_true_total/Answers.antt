use Rattle.vms_pcpu_core.proofs.KnowledgeKept.{sum-true}
use Rattle.vms_pcpu_core.proofs.knowledge.sum_is_true_total.Goals as goal

pub returns : goal.returns
returns c = sum-true
