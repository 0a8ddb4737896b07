-- What is due in the part that stands.
use Rattle.std.proofs.Common.{refl, subst, sym}
use Rattle.std.specs.Prelude.{IfSome}
use Rattle.vms_calls.specs.Common.{High}
use Rattle.vms_plans.specs.Common.{further_plan}
use Rattle.vms_cursors.specs.Cursors.{IsDue}
use Rattle.vms_cursors.specs.Orders.{counted_plan, order_at}
use Rattle.vms_cursors.specs.Snapshots.{snapshot_at}
use Rattle.vms_cursors.specs.Tests.{test_at}
use Rattle.vms_cursors.proofs.Followed.{some_followed-due}
use Rattle.vms_cursors.proofs.order_positions.OrderPosition.due.Goals as goal

pub returns-in-Tests-clause-due : goal.returns-in-Tests-clause-due
returns-in-Tests-clause-due c =
    let header = c.args.header.now in
    let zone = c.args.zone in
    let turn = c.args.turn in
    subst (λ s. IfSome c.due.result (λ due. IsDue (order_at header zone turn s) due)) (sym c.in-Tests.is)
    (some_followed-due (test_at header zone High turn.most c.in-Tests.at)
    (further_plan header zone High turn.most turn.order) c.due.result
    (c.due.ensures.due header High turn.most refl))

pub returns-in-Counts-clause-due : goal.returns-in-Counts-clause-due
returns-in-Counts-clause-due c =
    let header = c.args.header.now in
    let zone = c.args.zone in
    let blocks = c.in-Counts.area in
    subst (λ s. IfSome c.due-in-Counts.result (λ due. IsDue (order_at header zone c.args.turn s) due))
    (sym c.in-Counts.is)
    (some_followed-due (snapshot_at header.layout blocks.counter c.in-Counts.at)
    (counted_plan header zone c.in-Counts.field-0 blocks.order) c.due-in-Counts.result c.due-in-Counts.ensures.due)
