-- The goal was that the pass may make the take.
use Rattle.vms_calls.specs.Common.{IsCpu, IsGroup, Take}
use Rattle.vms_words.specs.declared.spots.Spot.TheVariants.{Group}
use Rattle.vms_words.specs.Common.{told}
use Rattle.vms_words.proofs.GroupSteps.{group-take}
use Rattle.vms_words.proofs.InTables.{may-at, known-of}
use Rattle.vms_words.proofs.tables.PageTable.take.Goals as goal

pub swap_at-requires-clause-step : goal.swap_at-requires-clause-step
swap_at-requires-clause-step g c =
    let pass = g.P.Caller.pass c.args.pass.now in
    may-at c.self.inside.layout c.self.inside.blocks c.self.inside.words c.args.self.now pass c.self.invariant
    c.self.view_is c.requires.table (Group c.args.cpu c.args.group) c.place_of-place.result
    c.place_of-place.ensures.value (λ n. 0) (told (Take c.args.cpu c.args.group c.zeros.result))
    (group-take pass c.args.cpu c.args.group c.zeros.result
    (known-of c.self.inside.layout c.self.inside.blocks c.self.inside.words c.args.self.now pass c.self.invariant
    c.self.view_is c.requires.table (λ shape. IsCpu shape c.args.cpu.number) c.requires.cpu)
    (known-of c.self.inside.layout c.self.inside.blocks c.self.inside.words c.args.self.now pass c.self.invariant
    c.self.view_is c.requires.table (λ shape. IsGroup shape c.args.group.number) c.requires.group))
