use Rattle.vms_pcpu_core.proofs.KnowledgeKept.{local-stays, spent-stays}
use Rattle.vms_pcpu_core.proofs.knowledge.own_part_stays.Goals as goal

pub returns : goal.returns
returns c = record { local = local-stays; spent = spent-stays }
