-- Each position settles as its own function says.
use Rattle.std.proofs.Common.{subst, sym}
use Rattle.vms_cursors.specs.Cursors.{IsSame}
use Rattle.vms_cursors.specs.Orders.{order_at}
use Rattle.vms_cursors.proofs.order_positions.OrderPosition.settled.Goals as goal

pub returns-in-Tests-clause-same : goal.returns-in-Tests-clause-same
returns-in-Tests-clause-same c =
    let header = c.args.header.now in
    subst (λ s. IsSame (order_at header c.args.zone c.args.turn s)
    (order_at header c.args.zone c.args.turn c.settled_test.result)) (sym c.in-Tests.is) c.settled_test.ensures.same

pub returns-in-Counts-clause-same : goal.returns-in-Counts-clause-same
returns-in-Counts-clause-same c =
    let header = c.args.header.now in
    subst (λ s. IsSame (order_at header c.args.zone c.args.turn s)
    (order_at header c.args.zone c.args.turn c.settled_count.result)) (sym c.in-Counts.is)
    c.settled_count.ensures.same

pub returns-in-Ended-clause-same : goal.returns-in-Ended-clause-same
returns-in-Ended-clause-same c = λ steps answer. ((λ run. run), (λ run. run))
