-- The blocks are counted, and the search goes on.
use Rattle.std.proofs.Common.{◌∙◌, refl, sym, ap}
use Rattle.vms_plans.specs.Common.{and_then}
use Rattle.vms_cursors.specs.Orders.{counted_plan, order_at}
use Rattle.vms_cursors.specs.Snapshots.{snapshot_answer, snapshot_at}
use Rattle.vms_cursors.proofs.Asking.{snapshot-asks}
use Rattle.vms_cursors.proofs.Followed.{followed-is}
use Rattle.vms_cursors.proofs.Goes.{same-runs}
use Rattle.vms_cursors.proofs.PlanEquations.{same-both}
use Rattle.vms_cursors.proofs.order_positions.settled_count.Goals as goal

pub returns-in-None-clause-same : goal.returns-in-None-clause-same
returns-in-None-clause-same c =
    let header = c.args.header.now in
    let zone = c.args.zone in
    let counter = c.args.area.counter in
    let at = c.args.at in
    let plan = snapshot_at header.layout counter at in
    let more = counted_plan header zone c.args.verdict c.args.area.order in
    same-both (and_then plan more) (more c.pages.result) (order_at header zone c.args.turn c.after_count.result)
    (same-runs (and_then plan more) (more c.pages.result)
    (followed-is plan more (snapshot_answer at) (snapshot-asks header.layout counter at) (c.in-None.ensures.ended refl)
    ∙ ap more (sym c.pages.ensures)))
    (c.after_count.ensures.same c.args.turn)

pub returns-in-None-clause-settled : goal.returns-in-None-clause-settled
returns-in-None-clause-settled c = c.after_count.ensures.settled c.args.turn
