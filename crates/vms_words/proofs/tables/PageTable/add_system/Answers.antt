-- The goal was that the pass may make the addition.
use Rattle.std.proofs.Common.{sym, subst}
use Rattle.vms_calls.specs.Common.{Facts, AddS, AddsToSystem}
use Rattle.vms_words.specs.declared.spots.Spot.TheVariants.{System}
use Rattle.vms_words.proofs.AddSteps.{add-at, system-add}
use Rattle.vms_words.proofs.tables.PageTable.add_system.Goals as goal

pub add_at-requires-clause-step : goal.add_at-requires-clause-step
add_at-requires-clause-step g c =
    let pass = g.P.Caller.pass c.args.pass.now in
    add-at c.self.inside.layout c.self.inside.blocks c.self.inside.words c.args.self.now pass c.self.invariant
    c.self.view_is c.requires.table (System c.args.item) c.place_of-place.result c.place_of-place.ensures.value
    c.args.amount c.ranges.amount (AddS c.args.item) c.encode.result c.encode.ensures
    (system-add pass c.args.item c.args.amount
    (subst (λ (f : Facts). AddsToSystem f pass.seen pass.number c.args.item c.args.amount)
    (sym c.requires.table.facts) c.requires.adds))
