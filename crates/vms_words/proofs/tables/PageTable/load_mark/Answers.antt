-- The goal was that the pass may make the load.
use Rattle.vms_calls.specs.Common.{IsZone, LoadM}
use Rattle.vms_words.specs.declared.spots.Spot.TheVariants.{Mark}
use Rattle.vms_words.specs.Common.{told}
use Rattle.vms_words.proofs.InTables.{may-at, known-of}
use Rattle.vms_words.proofs.LoadSteps.{mark-load}
use Rattle.vms_words.proofs.tables.PageTable.load_mark.Goals as goal

pub load_at-requires-clause-step : goal.load_at-requires-clause-step
load_at-requires-clause-step g c =
    let pass = g.P.Caller.pass c.args.pass.now in
    may-at c.self.inside.layout c.self.inside.blocks c.self.inside.words c.args.self.now pass c.self.invariant
    c.self.view_is c.requires.table (Mark c.args.zone) c.place_of-place.result c.place_of-place.ensures.value (λ n. n)
    (told (LoadM c.args.zone 0 0))
    (mark-load pass c.args.zone 0 0
    (known-of c.self.inside.layout c.self.inside.blocks c.self.inside.words c.args.self.now pass c.self.invariant
    c.self.view_is c.requires.table (λ shape. IsZone shape c.args.zone.number) c.requires.zone))
