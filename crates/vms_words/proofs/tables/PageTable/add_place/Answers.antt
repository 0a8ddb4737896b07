-- The goal was that the pass may make the addition.
use Rattle.std.proofs.Common.{sym, subst}
use Rattle.vms_calls.specs.Common.{Facts, AddG, AddsToPlace}
use Rattle.vms_words.specs.declared.spots.Spot.TheVariants.{Value}
use Rattle.vms_words.proofs.AddSteps.{add-at, value-add}
use Rattle.vms_words.proofs.tables.PageTable.add_place.Goals as goal

pub add_at-requires-clause-step : goal.add_at-requires-clause-step
add_at-requires-clause-step g c =
    let pass = g.P.Caller.pass c.args.pass.now in
    add-at c.self.inside.layout c.self.inside.blocks c.self.inside.words c.args.self.now pass c.self.invariant
    c.self.view_is c.requires.table (Value c.args.counter) c.place_of-place.result c.place_of-place.ensures.value
    c.args.amount c.ranges.amount (AddG c.args.counter) c.encode.result c.encode.ensures
    (value-add pass c.args.counter c.args.amount
    (subst (λ (f : Facts). AddsToPlace f pass.seen pass.number c.args.counter c.args.amount)
    (sym c.requires.table.facts) c.requires.adds))
