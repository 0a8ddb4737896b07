-- How the test of the zone goes on.
use Rattle.std.proofs.Common.{subst, sym}
use Rattle.vms_cursors.specs.Balances.{IsBalanceSettled, balance_at, judged_plan}
use Rattle.vms_cursors.specs.Cursors.{GoesOn, Stops}
use Rattle.vms_cursors.specs.Orders.{order_at}
use Rattle.vms_cursors.specs.declared.balance_positions.BalancePosition.TheVariants.{Zone}
use Rattle.vms_cursors.proofs.Followed.{followed-goes, followed-stops}
use Rattle.vms_cursors.proofs.OrderGoes.{order-unended}
use Rattle.vms_cursors.proofs.balance_positions.BalancePosition.next.Goals as goal

pub returns-in-Some-clause-goes : goal.returns-in-Some-clause-goes
returns-in-Some-clause-goes c =
    let header = c.args.header.now in
    let turn = c.args.turn in
    let zone = c.in-Zone.zone in
    let at = c.in-Zone.at in
    let later = c.in-Some.later in
    let settled = subst (IsBalanceSettled header turn) c.in-Zone.is c.requires.settled in
    subst (λ s. GoesOn (balance_at header turn s) c.args.step (balance_at header turn (Zone zone later)))
    (sym c.in-Zone.is)
    (followed-goes (order_at header zone turn at) (judged_plan header turn zone)
    (order-unended header zone turn at settled.0 settled.1) c.args.step (order_at header zone turn later)
    c.in-Some.ensures.goes)

pub returns-in-None-clause-stops : goal.returns-in-None-clause-stops
returns-in-None-clause-stops c = λ none.
    let header = c.args.header.now in
    let turn = c.args.turn in
    let zone = c.in-Zone.zone in
    let at = c.in-Zone.at in
    let settled = subst (IsBalanceSettled header turn) c.in-Zone.is c.requires.settled in
    subst (λ s. Stops (balance_at header turn s) c.args.step) (sym c.in-Zone.is)
    (followed-stops (order_at header zone turn at) (judged_plan header turn zone)
    (order-unended header zone turn at settled.0 settled.1) c.args.step (c.in-None.ensures.stops none))
