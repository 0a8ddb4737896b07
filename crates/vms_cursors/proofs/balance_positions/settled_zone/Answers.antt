-- A zone is tested, and at the end of that it passes or fails.
use Rattle.std.proofs.Common.{subst}
use Rattle.vms_cursors.specs.Balances.{balance_at, judged_plan}
use Rattle.vms_cursors.specs.Cursors.{IsSame}
use Rattle.vms_cursors.specs.Orders.{IsOrderEnded, order_at}
use Rattle.vms_cursors.specs.declared.balance_positions.BalancePosition.TheVariants.{Zone}
use Rattle.vms_cursors.proofs.Followed.{followed-same}
use Rattle.vms_cursors.proofs.PlanEquations.{same-both}
use Rattle.vms_cursors.proofs.balance_positions.settled_zone.Goals as goal

pub returns-in-Ended-clause-same : goal.returns-in-Ended-clause-same
returns-in-Ended-clause-same c =
    let header = c.args.header.now in
    let turn = c.args.turn in
    let zone = c.args.zone in
    let here = order_at header zone turn c.args.at in
    let judged = judged_plan header turn zone in
    same-both (balance_at header turn (Zone zone c.args.at)) (judged c.in-Ended.verdict)
    (balance_at header turn c.after_zone.result)
    (subst (λ s. IsSame (balance_at header turn (Zone zone c.args.at)) (balance_at header turn (Zone zone s)))
    c.in-Ended.is
    (followed-same here judged (order_at header zone turn c.settled-settled.result) c.settled-settled.ensures.same))
    c.after_zone.ensures.same

pub returns-in-Tests-clause-same : goal.returns-in-Tests-clause-same
returns-in-Tests-clause-same c =
    let header = c.args.header.now in
    let turn = c.args.turn in
    let zone = c.args.zone in
    followed-same (order_at header zone turn c.args.at) (judged_plan header turn zone)
    (order_at header zone turn c.settled-settled.result) c.settled-settled.ensures.same

pub returns-in-Tests-clause-settled : goal.returns-in-Tests-clause-settled
returns-in-Tests-clause-settled c =
    (c.settled-settled.ensures.settled, λ ended. subst IsOrderEnded c.in-Tests.is ended)

pub returns-in-Counts-clause-same : goal.returns-in-Counts-clause-same
returns-in-Counts-clause-same c =
    let header = c.args.header.now in
    let turn = c.args.turn in
    let zone = c.args.zone in
    followed-same (order_at header zone turn c.args.at) (judged_plan header turn zone)
    (order_at header zone turn c.settled-settled.result) c.settled-settled.ensures.same

pub returns-in-Counts-clause-settled : goal.returns-in-Counts-clause-settled
returns-in-Counts-clause-settled c =
    (c.settled-settled.ensures.settled, λ ended. subst IsOrderEnded c.in-Counts.is ended)
