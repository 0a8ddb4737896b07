use Rattle.vms_core.proofs.OfflineGroups.{offline-found_once}
use Rattle.vms_core.proofs.laws.taken.offline_groups_are_found_once.Goals as goal

pub returns : goal.returns
returns c = offline-found_once
