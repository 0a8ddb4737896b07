-- The laws hold of every beginning.
use Rattle.vms_group_core.proofs.AllLaws.{beginnings-kept}
use Rattle.vms_group_core.proofs.laws.laws_are_kept.Goals as goal

pub returns : goal.returns
returns c = beginnings-kept
