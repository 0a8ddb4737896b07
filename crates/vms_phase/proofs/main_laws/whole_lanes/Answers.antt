use Rattle.vms_phase.proofs.MainLanes.{HasLanes-whole, ended-whole}
use Rattle.vms_phase.proofs.main_laws.whole_lanes.Goals as goal

pub returns-clause-lanes : goal.returns-clause-lanes
returns-clause-lanes g c = HasLanes-whole g.T.LineTable.passes

pub returns-clause-ended : goal.returns-clause-ended
returns-clause-ended g c = λ facts lanes h can_begin. ended-whole g.T.LineTable.machine g.T.LineTable.quiet
    g.T.LineTable.passes facts can_begin (g.T.LineTable.fresh facts) lanes h
