use Rattle.vms_phase.proofs.BegunLanes.{free-lane, lane-fresh, lanes-begun}
use Rattle.vms_phase.proofs.turns.lanes_begin_in_turn.Goals as goal

pub returns-clause-begun : goal.returns-clause-begun
returns-clause-begun g c = lanes-begun g.T.LineTable.machine g.T.LineTable.passes

pub returns-clause-fresh : goal.returns-clause-fresh
returns-clause-fresh g c = lane-fresh g.T.LineTable.machine g.T.LineTable.passes

pub returns-clause-free : goal.returns-clause-free
returns-clause-free g c lanes lane main once apart has =
    free-lane g.T.LineTable.passes lanes lane main.seen once apart has.own_events
