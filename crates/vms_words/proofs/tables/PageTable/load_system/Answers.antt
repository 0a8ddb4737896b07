-- The goal was that the pass may make the load.
use Rattle.std.proofs.Common.{pos}
use Rattle.vms_calls.specs.Common.{IsItem, LoadS}
use Rattle.vms_words.specs.declared.spots.Spot.TheVariants.{System}
use Rattle.vms_words.specs.Common.{told}
use Rattle.vms_words.proofs.InTables.{may-at, known-of}
use Rattle.vms_words.proofs.LoadSteps.{system-load}
use Rattle.vms_words.proofs.tables.PageTable.load_system.Goals as goal

pub load_at-requires-clause-step : goal.load_at-requires-clause-step
load_at-requires-clause-step g c =
    let pass = g.P.Caller.pass c.args.pass.now in
    may-at c.self.inside.layout c.self.inside.blocks c.self.inside.words c.args.self.now pass c.self.invariant
    c.self.view_is c.requires.table (System c.args.item) c.place_of-place.result c.place_of-place.ensures.value (λ n. n)
    (told (LoadS c.args.item (pos 0)))
    (system-load pass c.args.item (pos 0)
    (known-of c.self.inside.layout c.self.inside.blocks c.self.inside.words c.args.self.now pass c.self.invariant
    c.self.view_is c.requires.table (λ shape. IsItem shape c.args.item.number) c.requires.item))
