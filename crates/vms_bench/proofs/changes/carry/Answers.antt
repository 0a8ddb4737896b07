-- The goals were that both additions may be made, and that nothing is carried after them.
use Rattle.std.proofs.Common.{ℤ, w64, sym, subst, arith}
use Rattle.std.proofs.lemmas.Int.{ints, to_z-of_z}
use Rattle.vms_calls.specs.Common.{AddsToPlace, AddsToSystem, AddG, AddS, pages}
use Rattle.vms_seats.specs.Common.{MadeOne}
use Rattle.vms_bench.specs.Common.{own_of}
use Rattle.vms_bench.proofs.PageCalls.{adds-place, adds-system, carried-away, carried-none}
use Rattle.vms_bench.proofs.changes.carry.Goals as goal

pub add_place-requires-clause-adds : goal.add_place-requires-clause-adds
add_place-requires-clause-adds c =
    subst (λ (a : ℤ). AddsToPlace c.args.table.now.facts c.args.pass.now.pass.seen c.args.pass.now.pass.number
    c.args.target.now.counter a) (sym (to_z-of_z w64 c.args.amount c.ranges.amount))
    (adds-place c.args.table.now.facts c.args.pass.now c.args.target.now c.requires.target c.args.amount
    c.requires.carries (omega (arith, ints)))

pub add_system-requires-clause-adds : goal.add_system-requires-clause-adds
add_system-requires-clause-adds c =
    let same = to_z-of_z w64 c.args.amount c.ranges.amount in
    subst (λ (a : ℤ). AddsToSystem c.args.table.now.facts c.add_place.new.pass.pass.seen
    c.add_place.new.pass.pass.number c.args.target.now.item a) (sym same)
    (adds-system c.args.table.now.facts c.add_place.new.pass c.args.pass.now c.args.target.now c.requires.target
    c.args.amount
    (subst (λ (a : ℤ). MadeOne pages c.add_place.new.pass.pass c.args.pass.now.pass (AddG c.args.target.now.counter a))
    same c.add_place.ensures.made)
    c.requires.carries (omega (arith, ints)))

pub returns-then-amount-ne0-clause-idle : goal.returns-then-amount-ne0-clause-idle
returns-then-amount-ne0-clause-idle c =
    let same = to_z-of_z w64 c.args.amount c.ranges.amount in
    carried-away c.args.table.now.facts c.add_system.new.pass c.add_place.new.pass c.args.pass.now c.args.target.now
    c.requires.target c.args.amount
    (subst (λ (a : ℤ). MadeOne pages c.add_place.new.pass.pass c.args.pass.now.pass (AddG c.args.target.now.counter a))
    same c.add_place.ensures.made)
    (subst (λ (a : ℤ). MadeOne pages c.add_system.new.pass.pass c.add_place.new.pass.pass
    (AddS c.args.target.now.item a))
    same c.add_system.ensures.made)
    c.requires.carries

pub returns-else-amount-ne0-clause-idle : goal.returns-else-amount-ne0-clause-idle
returns-else-amount-ne0-clause-idle c =
    carried-none c.args.table.now.facts.layout (own_of c.args.pass.now) c.args.target.now.counter.number c.args.amount
    (omega (arith, ints)) c.requires.carries
