-- Of a line at fault, of a history that is cut off, and of none.
use Rattle.vms_certifying.proofs.OneHistory.{CutOffAreNone-holds, FaultsAreFinal-holds, LacksAreNone-holds}
use Rattle.vms_certifying.proofs.laws.faults_are_final.Goals as goal

pub returns-clause-at_fault : goal.returns-clause-at_fault
returns-clause-at_fault g c =
    FaultsAreFinal-holds c.header_is_settled.ensures g.J.HistoryJudge.rules
    (λ lines header count is. (c.headers_are_writable.ensures lines header count is).is_header)

pub returns-clause-cut_off : goal.returns-clause-cut_off
returns-clause-cut_off g c =
    CutOffAreNone-holds c.header_is_settled.ensures g.J.HistoryJudge.rules
    (λ lines header count is. (c.headers_are_writable.ensures lines header count is).is_header)

pub returns-clause-none : goal.returns-clause-none
returns-clause-none g c =
    LacksAreNone-holds c.header_is_settled.ensures g.J.HistoryJudge.rules
    (λ lines header count is. (c.headers_are_writable.ensures lines header count is).is_header)
