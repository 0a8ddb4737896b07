-- An item for the order ends the search, and an order without one is passed.
use Rattle.std.proofs.Common.{◌≡◌, ℕ, ◌+◌, ◌≤◌, ◌∙◌, Some, None, sym, ap, refl, arith}
use Rattle.vms_calls.specs.Common.{CounterId, area_index}
use Rattle.vms_cursors.proofs.AreasLeft.{areas-end, areas-found, areas-left, areas-skipped}
use Rattle.vms_cursors.proofs.blocks.first_blocks.Goals as goal

pub loop-order-init : goal.loop-order-init
loop-order-init c = areas-left c.args.header.now.items c.args.from c.requires.least

pub returns-in-Some-clause-first : goal.returns-in-Some-clause-first
returns-in-Some-clause-first c =
    let items = c.args.header.now.items in
    let order = c.loop-order.order in
    let index = c.in-Some.index in
    let least : 1 ≤ order = omega (arith, c.requires.least, c.loop-order.auto.order) in
    let most : order ≤ 10 = omega (arith, c.loop-order-test.true) in
    let found : area_index items order ≡ Some index = sym c.item_index.ensures.value ∙ c.in-Some.is in
    let counted : ℕ → CounterId = λ n. record { number = n } in
    record {
      area = record { order = order; position = 8 + index };
      first = c.loop-order.invariant ∙ areas-found items order index least most found;
      order = refl;
      counter = ap counted c.counter.ensures.value;
    }

pub loop-order-preserved : goal.loop-order-preserved
loop-order-preserved c =
    let items = c.args.header.now.items in
    let order = c.loop-order.order in
    let least : 1 ≤ order = omega (arith, c.requires.least, c.loop-order.auto.order) in
    let most : order ≤ 10 = omega (arith, c.loop-order-test.true) in
    let none : area_index items order ≡ None = sym c.item_index.ensures.value ∙ c.in-None.is in
    c.loop-order.invariant ∙ areas-skipped items order least most none

pub returns-clause-none : goal.returns-clause-none
returns-clause-none c = λ none.
    let past : 11 ≤ c.loop-order.order = omega (arith, c.loop-order-test.false) in
    c.loop-order.invariant ∙ areas-end c.args.header.now.items c.loop-order.order past
