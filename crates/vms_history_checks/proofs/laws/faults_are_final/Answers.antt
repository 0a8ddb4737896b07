-- Whatever follows, the phase would be one of its lines.
use Rattle.vms_history_checks.proofs.FinalFaults.{lines-final}
use Rattle.vms_history_checks.proofs.laws.faults_are_final.Goals as goal

pub returns : goal.returns
returns g c header segments hs said cause more all valid stands fault lines =
    lines-final header valid g.W.LaneWalk.pressure g.W.LaneWalk.normal g.met.W.LaneWalk.gives g.met.W.LaneWalk.exact
    g.met.W.LaneWalk.by_own segments stands hs said cause more all fault lines
