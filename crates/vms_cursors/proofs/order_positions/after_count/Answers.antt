-- The search goes on after no block, and ends at one.
use Rattle.std.proofs.Common.{◌+◌, ◌∙◌, sym, ap, add-one}
use Rattle.vms_plans.specs.Common.{ends}
use Rattle.vms_cursors.specs.Orders.{blocks_from, counted_plan, order_at}
use Rattle.vms_cursors.specs.declared.order_positions.OrderPosition.TheVariants.{Ended}
use Rattle.vms_cursors.proofs.Goes.{same-runs}
use Rattle.vms_cursors.proofs.OrderGoes.{count-none, count-some}
use Rattle.vms_cursors.proofs.PlanEquations.{same-both}
use Rattle.vms_cursors.proofs.order_positions.after_count.Goals as goal

pub returns-then-count-eq0-clause-same : goal.returns-then-count-eq0-clause-same
returns-then-count-eq0-clause-same c = λ turn.
    let header = c.args.header.now in
    let zone = c.args.zone in
    let order = c.args.area.order in
    let counted = counted_plan header zone c.args.verdict order c.args.count in
    let more = blocks_from header zone c.args.verdict (order + 1) in
    same-both counted more (order_at header zone turn c.sought.result)
    (same-runs counted more (count-none header zone c.args.verdict order c.args.count c.if-count-eq0.true
    ∙ ap (blocks_from header zone c.args.verdict) (sym (add-one order))))
    (c.sought.ensures.same turn)

pub returns-clause-same : goal.returns-clause-same
returns-clause-same c = λ turn.
    let header = c.args.header.now in
    let zone = c.args.zone in
    let order = c.args.area.order in
    let counted = counted_plan header zone c.args.verdict order c.args.count in
    same-runs counted (order_at header zone turn (Ended c.ordered.result))
    (count-some header zone c.args.verdict order c.args.count c.if-count-eq0.false ∙ ap ends (sym c.ordered.ensures))
