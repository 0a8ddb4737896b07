-- Where nothing is asked for, no rule is asked; where something is, the pass is a control pass.
use Rattle.std.proofs.Common.{sym, subst}
use Rattle.vms_world.specs.Common.{Lane}
use Rattle.vms_own_acts.specs.Common.{IsHistoryFor}
use Rattle.vms_walks.proofs.AskedRules.{of_control, unasked-ready}
use Rattle.vms_walks.proofs.settling.settle.Goals as goal

pub returns-in-Some-clause-same : goal.returns-in-Some-clause-same
returns-in-Some-clause-same g c = λ base lane p h is keeps of_lane.
    let control = of_control lane c.args.cursor.now c.in-Some.asking (sym c.in-Some.ensures) of_lane in
    c.answered.ensures.same base p h
    (subst (λ (l : Lane). IsHistoryFor c.args.header.now base l p h) control is) keeps

pub returns-in-None-clause-same : goal.returns-in-None-clause-same
returns-in-None-clause-same g c = λ base lane p h is keeps of_lane steps told. ((λ run. run), (λ run. run))

pub returns-in-None-clause-ready : goal.returns-in-None-clause-ready
returns-in-None-clause-ready g c = unasked-ready c.args.cursor.now (sym c.in-None.ensures)
