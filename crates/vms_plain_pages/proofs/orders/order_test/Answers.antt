-- The steps of the test.
use Rattle.std.proofs.Common.{sym, subst, rules}
use Rattle.vms_calls.specs.Common.{IsOrderTest}
use Rattle.vms_calls.specs.declared.answers.OrderVerdict.{OrderVerdict}
use Rattle.vms_plain_pages.specs.Common.{CallLeadsAlone}
use Rattle.vms_plain_pages.proofs.OrderSteps.{order-made}
use Rattle.vms_plain_pages.proofs.orders.order_test.Goals as goal

pub returns-then-order-eq0-clause-answer : goal.returns-then-order-eq0-clause-answer
returns-then-order-eq0-clause-answer c = search rules

pub returns-then-order-eq0-clause-made : goal.returns-then-order-eq0-clause-made
returns-then-order-eq0-clause-made c = λ who.
    subst (λ (verdict : OrderVerdict). CallLeadsAlone who
    (λ steps. IsOrderTest c.args.header.now c.args.zone c.args.mark c.args.most c.args.order steps verdict)
    c.args.pages.now c.args.pages.now)
    (sym (returns-then-order-eq0-clause-answer c))
    (order-made c.args.header.now c.requires.header c.args.pages.now c.requires.room c.args.zone c.requires.zone who
    c.args.mark c.args.most c.args.order)

pub returns-clause-answer : goal.returns-clause-answer
returns-clause-answer c = search rules

pub returns-clause-made : goal.returns-clause-made
returns-clause-made c = λ who.
    subst (λ (verdict : OrderVerdict). CallLeadsAlone who
    (λ steps. IsOrderTest c.args.header.now c.args.zone c.args.mark c.args.most c.args.order steps verdict)
    c.args.pages.now c.args.pages.now)
    (sym (returns-clause-answer c))
    (order-made c.args.header.now c.requires.header c.args.pages.now c.requires.room c.args.zone c.requires.zone who
    c.args.mark c.args.most c.args.order)
