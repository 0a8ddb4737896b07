-- The goal was that the pass may make the load.
use Rattle.std.proofs.Common.{pos}
use Rattle.vms_calls.specs.Common.{IsCounter, LoadG}
use Rattle.vms_words.specs.declared.spots.Spot.TheVariants.{Value}
use Rattle.vms_words.specs.Common.{told}
use Rattle.vms_words.proofs.InTables.{may-at, known-of}
use Rattle.vms_words.proofs.LoadSteps.{value-load}
use Rattle.vms_words.proofs.tables.PageTable.load_place.Goals as goal

pub load_at-requires-clause-step : goal.load_at-requires-clause-step
load_at-requires-clause-step g c =
    let pass = g.P.Caller.pass c.args.pass.now in
    may-at c.self.inside.layout c.self.inside.blocks c.self.inside.words c.args.self.now pass c.self.invariant
    c.self.view_is c.requires.table (Value c.args.counter) c.place_of-place.result
    c.place_of-place.ensures.value (λ n. n)
    (told (LoadG c.args.counter (pos 0)))
    (value-load pass c.args.counter (pos 0)
    (known-of c.self.inside.layout c.self.inside.blocks c.self.inside.words c.args.self.now pass c.self.invariant
    c.self.view_is c.requires.table (λ shape. IsCounter shape c.args.counter.number) c.requires.counter))
