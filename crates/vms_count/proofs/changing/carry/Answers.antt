-- The goals were that the item's addition may be made too, and what both additions are.
use Rattle.std.proofs.Common.{w64, sym, ap, ◌∙◌, subst, arith}
use Rattle.std.proofs.lemmas.Int.{ints, to_z-of_z}
use Rattle.vms_calls.specs.Common.{IsLayout, item_of, AddsToSystem, AddG, AddS, pages}
use Rattle.vms_seats.specs.Common.{MadeOne}
use Rattle.vms_count.proofs.ChangeSteps.{adds-system, carried-both, carried-none}
use Rattle.vms_count.proofs.changing.carry.Goals as goal

pub add_system-requires-clause-adds : goal.add_system-requires-clause-adds
add_system-requires-clause-adds c =
    let facts = c.args.table.now.facts in
    let same = to_z-of_z w64 c.args.amount c.ranges.amount in
    let added = c.add_place.new.pass.pass in
    subst (λ a. AddsToSystem facts added.seen added.number c.item_of.result a) (sym same)
    (adds-system facts (subst IsLayout c.layout.ensures c.item_of.ensures.is_layout) added c.args.pass.now.pass
    c.args.counter c.item_of.result
    c.args.amount (c.item_of.ensures.value ∙ ap (λ shape. item_of shape c.args.counter.number) c.layout.ensures)
    (subst (λ a. MadeOne pages added c.args.pass.now.pass (AddG c.args.counter a)) same c.add_place.ensures.made)
    c.requires.carries (omega (arith, ints)))

pub returns-then-amount-ne0-clause-made : goal.returns-then-amount-ne0-clause-made
returns-then-amount-ne0-clause-made c =
    let same = to_z-of_z w64 c.args.amount c.ranges.amount in
    let added = c.add_place.new.pass.pass in
    carried-both c.args.table.now.facts.layout c.add_system.new.pass.pass added c.args.pass.now.pass c.args.counter
    c.item_of.result c.args.amount
    (c.item_of.ensures.value ∙ ap (λ shape. item_of shape c.args.counter.number) c.layout.ensures)
    (subst (λ a. MadeOne pages added c.args.pass.now.pass (AddG c.args.counter a)) same c.add_place.ensures.made)
    (subst (λ a. MadeOne pages c.add_system.new.pass.pass added (AddS c.item_of.result a)) same
    c.add_system.ensures.made)
    (omega (arith, ints))

pub returns-else-amount-ne0-clause-made : goal.returns-else-amount-ne0-clause-made
returns-else-amount-ne0-clause-made c =
    carried-none c.args.table.now.facts.layout c.args.pass.now.pass c.is_live.ensures c.args.counter c.args.amount
    (omega (arith, ints))
