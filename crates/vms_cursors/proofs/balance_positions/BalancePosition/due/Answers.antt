-- What is due in the zone that is tested.
use Rattle.std.proofs.Common.{subst, sym}
use Rattle.std.specs.Prelude.{IfSome}
use Rattle.vms_cursors.specs.Balances.{balance_at, judged_plan}
use Rattle.vms_cursors.specs.Cursors.{IsDue}
use Rattle.vms_cursors.specs.Orders.{order_at}
use Rattle.vms_cursors.proofs.Followed.{some_followed-due}
use Rattle.vms_cursors.proofs.balance_positions.BalancePosition.due.Goals as goal

pub returns-in-Zone-clause-due : goal.returns-in-Zone-clause-due
returns-in-Zone-clause-due c =
    let header = c.args.header.now in
    let turn = c.args.turn in
    let zone = c.in-Zone.zone in
    subst (λ s. IfSome c.due.result (λ due. IsDue (balance_at header turn s) due)) (sym c.in-Zone.is)
    (some_followed-due (order_at header zone turn c.in-Zone.at) (judged_plan header turn zone) c.due.result
    c.due.ensures.due)
