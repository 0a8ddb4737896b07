-- The goals were that the pass owns a CPU of the layout, and that it may acknowledge.
use Rattle.std.proofs.Common.{sym, ◌∙◌, subst}
use Rattle.vms_calls.specs.Common.{IsCpu, IsZone, Facts, SetA, Acknowledges, pages}
use Rattle.vms_seats.specs.Common.{MayStep}
use Rattle.vms_words.specs.declared.spots.Spot.TheVariants.{Acknowledgement}
use Rattle.vms_words.specs.Shown.{shown}
use Rattle.vms_words.specs.Spots.{blocks_of}
use Rattle.vms_words.specs.Common.{place_in, told}
use Rattle.vms_words.proofs.InTables.{may-at, known-in}
use Rattle.vms_words.proofs.LoadSteps.{owned-known}
use Rattle.vms_words.proofs.AcknowledgeSteps.{acknowledge-may}
use Rattle.vms_words.proofs.tables.PageTable.acknowledge.Goals as goal

pub place_of-place-requires-clause-spot : goal.place_of-place-requires-clause-spot
place_of-place-requires-clause-spot g c =
    let pass = g.P.Caller.pass c.args.pass.now in
    let acknowledges = subst (λ (f : Facts). Acknowledges f pass.seen pass.number c.args.zone c.args.number)
    (sym c.requires.table.facts) c.requires.acknowledges in (
      known-in c.self.inside.layout c.self.inside.blocks c.self.inside.words c.args.self.now pass c.self.invariant
          c.self.view_is c.requires.table (λ shape. IsCpu shape c.in-Some.cpu.number)
          (owned-known pass c.in-Some.cpu c.own.ensures.live (sym c.own.ensures.cpu ∙ c.in-Some.is)),
      known-in c.self.inside.layout c.self.inside.blocks c.self.inside.words c.args.self.now pass c.self.invariant
          c.self.view_is c.requires.table (λ shape. IsZone shape c.args.zone.number) acknowledges.zone,
    )

pub swap_at-requires-clause-step : goal.swap_at-requires-clause-step
swap_at-requires-clause-step g c =
    let pass = g.P.Caller.pass c.args.pass.now in
    let owns = sym c.own.ensures.cpu ∙ c.in-Some.is in
    may-at c.self.inside.layout c.self.inside.blocks c.self.inside.words c.args.self.now pass c.self.invariant
    c.self.view_is c.requires.table (Acknowledgement c.in-Some.cpu c.args.zone) c.place_of-place.result
    c.place_of-place.ensures.value (λ n. c.acknowledgement_word.result) (told (SetA c.args.zone c.args.number))
    (subst
    (λ word. MayStep pages shown pass
    (place_in (blocks_of pass.facts.layout) (Acknowledgement c.in-Some.cpu c.args.zone))
    (λ n. word) (told (SetA c.args.zone c.args.number)))
    (sym c.acknowledgement_word.ensures)
    (acknowledge-may pass c.in-Some.cpu c.args.zone c.args.number
    (subst (λ (f : Facts). Acknowledges f pass.seen pass.number c.args.zone c.args.number)
    (sym c.requires.table.facts) c.requires.acknowledges)
    (c.own.ensures.live.owner ∙ owns) (owned-known pass c.in-Some.cpu c.own.ensures.live owns)))
