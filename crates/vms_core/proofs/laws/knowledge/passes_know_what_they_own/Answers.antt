use Rattle.vms_core.proofs.KnowledgeKept.{OwnerKnows-holds, control-knows_later}
use Rattle.vms_core.proofs.laws.knowledge.passes_know_what_they_own.Goals as goal

pub returns : goal.returns
returns c = record { owner = OwnerKnows-holds; control = control-knows_later }
