-- The goal was that the pass may make the load.
use Rattle.vms_calls.specs.Common.{Online, IsCpu, LoadO}
use Rattle.vms_words.specs.declared.spots.Spot.TheVariants.{Cpu}
use Rattle.vms_words.specs.Common.{told}
use Rattle.vms_words.proofs.InTables.{may-at, known-of}
use Rattle.vms_words.proofs.LoadSteps.{cpu-load}
use Rattle.vms_words.proofs.tables.PageTable.load_state.Goals as goal

pub load_at-requires-clause-step : goal.load_at-requires-clause-step
load_at-requires-clause-step g c =
    let pass = g.P.Caller.pass c.args.pass.now in
    may-at c.self.inside.layout c.self.inside.blocks c.self.inside.words c.args.self.now pass c.self.invariant
    c.self.view_is c.requires.table (Cpu c.args.cpu) c.place_of-place.result c.place_of-place.ensures.value (λ n. n)
    (told (LoadO c.args.cpu Online))
    (cpu-load pass c.args.cpu Online
    (known-of c.self.inside.layout c.self.inside.blocks c.self.inside.words c.args.self.now pass c.self.invariant
    c.self.view_is c.requires.table (λ shape. IsCpu shape c.args.cpu.number) c.requires.cpu))
