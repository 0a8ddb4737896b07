-- Lines of groups ask only inside a phase.
use Rattle.vms_groups.specs.Common.{groups_texts}
use Rattle.vms_wait_laws.proofs.AskingGroups.{groups-ask_inside}
use Rattle.vms_wait_laws.proofs.InsidePhases.{WaitInsidePhases-asking}
use Rattle.vms_wait_laws.proofs.waits.groups_wait_inside_phases.Goals as goal

pub returns : goal.returns
returns c = WaitInsidePhases-asking groups_texts groups-ask_inside
