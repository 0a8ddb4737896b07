use Rattle.vms_pcpu_core.proofs.KnowledgeKept.{holds-stays, count-stays, local-grows}
use Rattle.vms_pcpu_core.proofs.knowledge.holder_acts_alone.Goals as goal

pub returns : goal.returns
returns c = record { holds = holds-stays; count = count-stays; local = local-grows }
