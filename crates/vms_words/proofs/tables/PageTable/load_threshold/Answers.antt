-- The goals were that the pass owns a CPU of the layout, and that it may make the load.
use Rattle.std.proofs.Common.{sym, ◌∙◌}
use Rattle.vms_calls.specs.Common.{IsCpu, IsPlace, LoadT}
use Rattle.vms_words.specs.declared.spots.Spot.TheVariants.{Threshold}
use Rattle.vms_words.specs.Common.{told}
use Rattle.vms_words.proofs.InTables.{may-at, known-of, known-in}
use Rattle.vms_words.proofs.LoadSteps.{threshold-load, owned-known}
use Rattle.vms_words.proofs.tables.PageTable.load_threshold.Goals as goal

pub place_of-at-requires-clause-spot : goal.place_of-at-requires-clause-spot
place_of-at-requires-clause-spot g c =
    let pass = g.P.Caller.pass c.args.pass.now in (
      known-in c.self.inside.layout c.self.inside.blocks c.self.inside.words c.args.self.now pass c.self.invariant
          c.self.view_is c.requires.table (λ shape. IsCpu shape c.in-Some.cpu.number)
          (owned-known pass c.in-Some.cpu c.own.ensures.live (sym c.own.ensures.cpu ∙ c.in-Some.is)),
      known-in c.self.inside.layout c.self.inside.blocks c.self.inside.words c.args.self.now pass c.self.invariant
          c.self.view_is c.requires.table (λ shape. IsPlace shape c.args.place.number)
          (known-of c.self.inside.layout c.self.inside.blocks c.self.inside.words c.args.self.now pass c.self.invariant
          c.self.view_is c.requires.table (λ shape. IsPlace shape c.args.place.number) c.requires.place),
    )

pub load_at-requires-clause-step : goal.load_at-requires-clause-step
load_at-requires-clause-step g c =
    let pass = g.P.Caller.pass c.args.pass.now in
    may-at c.self.inside.layout c.self.inside.blocks c.self.inside.words c.args.self.now pass c.self.invariant
    c.self.view_is c.requires.table (Threshold c.in-Some.cpu c.args.place) c.place_of-at.result
    c.place_of-at.ensures.value (λ n. n) (told (LoadT c.args.place 0 0))
    (threshold-load pass c.in-Some.cpu c.args.place 0 0 c.own.ensures.live (sym c.own.ensures.cpu ∙ c.in-Some.is)
    (known-of c.self.inside.layout c.self.inside.blocks c.self.inside.words c.args.self.now pass c.self.invariant
    c.self.view_is c.requires.table (λ shape. IsPlace shape c.args.place.number) c.requires.place))
