-- How the part that stands goes on.
use Rattle.std.proofs.Common.{refl, subst, sym}
use Rattle.vms_calls.specs.Common.{High}
use Rattle.vms_plans.specs.Common.{further_plan}
use Rattle.vms_cursors.specs.Cursors.{GoesOn, Stops}
use Rattle.vms_cursors.specs.Orders.{IsOrderSettled, counted_plan, order_at}
use Rattle.vms_cursors.specs.Snapshots.{snapshot_at}
use Rattle.vms_cursors.specs.Tests.{test_at}
use Rattle.vms_cursors.specs.declared.order_positions.OrderPosition.TheVariants.{Counts, Tests}
use Rattle.vms_cursors.proofs.Followed.{followed-goes, followed-stops}
use Rattle.vms_cursors.proofs.order_positions.OrderPosition.next.Goals as goal

pub returns-in-Some-clause-goes : goal.returns-in-Some-clause-goes
returns-in-Some-clause-goes c =
    let header = c.args.header.now in
    let zone = c.args.zone in
    let turn = c.args.turn in
    let later = c.in-Some.later in
    subst (λ s. GoesOn (order_at header zone turn s) c.args.step (order_at header zone turn (Tests later)))
    (sym c.in-Tests.is)
    (followed-goes (test_at header zone High turn.most c.in-Tests.at)
    (further_plan header zone High turn.most turn.order)
    (subst (IsOrderSettled header zone turn) c.in-Tests.is c.requires.settled) c.args.step
    (test_at header zone High turn.most later) (c.in-Some.ensures.goes header High turn.most refl))

pub returns-in-None-clause-stops : goal.returns-in-None-clause-stops
returns-in-None-clause-stops c = λ none.
    let header = c.args.header.now in
    let zone = c.args.zone in
    let turn = c.args.turn in
    subst (λ s. Stops (order_at header zone turn s) c.args.step) (sym c.in-Tests.is)
    (followed-stops (test_at header zone High turn.most c.in-Tests.at)
    (further_plan header zone High turn.most turn.order)
    (subst (IsOrderSettled header zone turn) c.in-Tests.is c.requires.settled) c.args.step
    (c.in-None.ensures.stops header High turn.most refl none))

pub returns-in-Some-next-clause-goes : goal.returns-in-Some-next-clause-goes
returns-in-Some-next-clause-goes c =
    let header = c.args.header.now in
    let zone = c.args.zone in
    let turn = c.args.turn in
    let verdict = c.in-Counts.verdict in
    let blocks = c.in-Counts.area in
    let later = c.in-Some-next.later in
    subst (λ s. GoesOn (order_at header zone turn s) c.args.step
    (order_at header zone turn (Counts verdict blocks later))) (sym c.in-Counts.is)
    (followed-goes (snapshot_at header.layout blocks.counter c.in-Counts.at)
    (counted_plan header zone verdict blocks.order)
    (subst (IsOrderSettled header zone turn) c.in-Counts.is c.requires.settled) c.args.step
    (snapshot_at header.layout blocks.counter later) c.in-Some-next.ensures.goes)

pub returns-in-None-next-clause-stops : goal.returns-in-None-next-clause-stops
returns-in-None-next-clause-stops c = λ none.
    let header = c.args.header.now in
    let zone = c.args.zone in
    let turn = c.args.turn in
    let blocks = c.in-Counts.area in
    subst (λ s. Stops (order_at header zone turn s) c.args.step) (sym c.in-Counts.is)
    (followed-stops (snapshot_at header.layout blocks.counter c.in-Counts.at)
    (counted_plan header zone c.in-Counts.verdict blocks.order)
    (subst (IsOrderSettled header zone turn) c.in-Counts.is c.requires.settled) c.args.step
    (c.in-None-next.ensures.stops none))
