-- Nothing is kept before the first line.
use Rattle.std.proofs.Common.{Some, ap}
use Rattle.vms_groups.proofs.FirstPhases.{PhaseStands-first}
use Rattle.vms_groups.proofs.open_phases.OpenPhase.begin.Goals as goal

pub returns : goal.returns
returns c = PhaseStands-first c.args.header.now c.requires c.group_phases_lead_on.ensures.first _
    (ap Some c.in_ok-first.ensures) c.new.ensures.items c.new-2.ensures.items
