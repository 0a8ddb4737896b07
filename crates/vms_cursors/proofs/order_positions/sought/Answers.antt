-- The blocks of the first order with an item are counted.
use Rattle.vms_cursors.specs.Orders.{blocks_from, order_at}
use Rattle.vms_cursors.specs.declared.order_positions.OrderPosition.TheVariants.{Counts}
use Rattle.vms_cursors.specs.declared.snapshot_positions.SnapshotPosition.TheVariants.{Begun}
use Rattle.vms_cursors.proofs.Goes.{same-runs}
use Rattle.vms_cursors.proofs.OrderGoes.{some-sought}
use Rattle.vms_cursors.proofs.order_positions.sought.Goals as goal

pub returns-in-Some-clause-same : goal.returns-in-Some-clause-same
returns-in-Some-clause-same c = λ turn.
    let header = c.args.header.now in
    let zone = c.args.zone in
    same-runs (blocks_from header zone c.args.verdict c.args.from)
    (order_at header zone turn (Counts c.args.verdict c.in-Some.area Begun))
    (some-sought header zone c.args.verdict turn c.args.from c.in-Some.area c.in-Some.ensures.first)
