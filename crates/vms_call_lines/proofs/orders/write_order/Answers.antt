-- The watermark test, and what follows it.
use Rattle.std.proofs.Common.{Bool, sym, subst, arith, None}
use Rattle.vms_plans.specs.Common.{order_plan, ordered}
use Rattle.vms_text.proofs.Common.{Begins-after, OnErr-true}
use Rattle.vms_call_lines.specs.Lines.{WritesWay}
use Rattle.vms_call_lines.proofs.OrderWays.{writes-order, writes-order_zero}
use Rattle.vms_call_lines.proofs.orders.write_order.Goals as goal

pub returns-then-order-eq0-clause-ok : goal.returns-then-order-eq0-clause-ok
returns-then-order-eq0-clause-ok c = λ who.
    writes-order_zero who c.args.pages.now c.args.caller c.args.header.now c.args.zone c.args.mark c.args.most
    c.args.order c.in_ok-verdict.verdict c.args.out.now.items c.write_test.new.out.items c.if-order-eq0.true
    (c.in_ok-verdict.ensures.ok who)

pub returns-clause-ok : goal.returns-clause-ok
returns-clause-ok c = λ who.
    subst (λ (b : Bool). WritesWay who (order_plan c.args.header.now c.args.zone c.args.mark c.args.most c.args.order)
    c.args.pages.now c.args.caller c.args.out.now.items c.write_block_within.new.out.items
    (ordered c.in_ok-verdict.verdict b c.in_ok-area.area) c.args.pages.now) (sym c.is_some.ensures)
    (writes-order who c.args.pages.now c.args.caller c.args.header.now c.args.zone c.args.mark c.args.most
    c.args.order c.limit-limit.result c.in_ok-verdict.verdict c.in_ok-area.area c.args.out.now.items
    c.write_test.new.out.items c.write_block_within.new.out.items (omega arith) c.limit-limit.ensures.value
    (c.in_ok-verdict.ensures.ok who) (c.in_ok-area.ensures.ok who))

pub returns-in_err-area-clause-err : goal.returns-in_err-area-clause-err
returns-in_err-area-clause-err c =
    OnErr-true c.from_residual-in_err-area.result _
    (Begins-after _ _ _ _ (c.in_ok-verdict.ensures.ok None).lines c.in_err-area.ensures.err)
