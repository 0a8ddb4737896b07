-- Faults stay by the lists that lines say, and so no text with one is certified.
use Rattle.vms_history_judge.proofs.StayingFaults.{FaultsStay-holds}
use Rattle.vms_history_judge.proofs.laws.judged_faults_are_final.Goals as goal

pub returns-clause-stay : goal.returns-clause-stay
returns-clause-stay g c =
    FaultsStay-holds g.W.LaneWalk.pressure g.W.LaneWalk.normal c.faults_are_final.ensures

pub returns-clause-certified : goal.returns-clause-certified
returns-clause-certified g c =
    c.faults_are_final-2.ensures.at_fault
    (FaultsStay-holds g.W.LaneWalk.pressure g.W.LaneWalk.normal c.faults_are_final.ensures)
