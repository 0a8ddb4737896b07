-- The goals were that the pass may make the load, that the number found fits, and that the pass keeps what it found.
use Rattle.std.proofs.Common.{◌≡◌, ◌^◌, ◌<◌, None, Option, ℕ, Bool, sym, ap, ◌∙◌, subst}
use Rattle.vms_calls.specs.Common.{Shape, IsCpu, IsZone, LoadA, is_number}
use Rattle.vms_words.specs.declared.spots.Spot.TheVariants.{Acknowledgement}
use Rattle.vms_words.specs.Common.{IsControlPass, kept_sets, with_kept_peak, acknowledgement_told}
use Rattle.vms_words.specs.Told as words
use Rattle.vms_words.proofs.AcknowledgedLoads.{acknowledged-fits}
use Rattle.vms_words.proofs.ControlPasses.{IsControlPass-made, worker-of}
use Rattle.vms_words.proofs.InTables.{may-at, known-of, of-layout}
use Rattle.vms_words.proofs.LoadSteps.{acknowledgement-load}
use Rattle.vms_words.proofs.tables.PageTable.load_acknowledged.Goals as goal

pub load_at-requires-clause-step : goal.load_at-requires-clause-step
load_at-requires-clause-step c =
    let pass = c.pass.inside.worker in
    let of = worker-of pass c.args.pass.now c.args.self.now c.pass.view_is c.requires.table in
    may-at c.self.inside.layout c.self.inside.blocks c.self.inside.words c.args.self.now pass c.self.invariant
    c.self.view_is of (Acknowledgement c.args.cpu c.args.zone) c.place_of-place.result c.place_of-place.ensures.value
    (λ n. n) (words.told (LoadA c.args.cpu c.args.zone None))
    (acknowledgement-load pass c.args.cpu c.args.zone None c.pass.invariant.live c.pass.invariant.none
    (known-of c.self.inside.layout c.self.inside.blocks c.self.inside.words c.args.self.now pass c.self.invariant
    c.self.view_is of (λ shape. IsCpu shape c.args.cpu.number) c.requires.cpu)
    (known-of c.self.inside.layout c.self.inside.blocks c.self.inside.words c.args.self.now pass c.self.invariant
    c.self.view_is of (λ shape. IsZone shape c.args.zone.number) c.requires.zone))

pub acknowledged_of-found-requires : goal.acknowledged_of-found-requires
acknowledged_of-found-requires c =
    let pass = c.pass.inside.worker in
    let of = worker-of pass c.args.pass.now c.args.self.now c.pass.view_is c.requires.table in
    let number = c.sets_at-newest.ensures
    ∙ ap (λ (shape : Shape). kept_sets shape c.pass.inside.kept c.args.cpu.number c.args.zone.number)
    (of-layout c.self.inside.layout c.self.inside.blocks c.self.inside.words c.args.self.now pass c.self.invariant
    c.self.view_is of) in
    acknowledged-fits c.load_at.new.self pass c.pass.inside.kept c.args.cpu c.args.zone c.load_at.result
    c.pass.invariant c.load_at.ensures (subst (λ n. n < 2 ^ 32) number c.sets_at-newest.type_inv)

pub invariant_of-pass : goal.invariant_of-pass
invariant_of-pass c =
    let pass = c.pass.inside.worker in
    let cpu = c.args.cpu in
    let zone = c.args.zone in
    let kept = c.pass.inside.kept in
    let of = worker-of pass c.args.pass.now c.args.self.now c.pass.view_is c.requires.table in
    let same = of-layout c.self.inside.layout c.self.inside.blocks c.self.inside.words c.args.self.now pass
    c.self.invariant c.self.view_is of in
    let told = acknowledgement_told c.load_at.result in
    let newest : c.is_number.result
    ≡ is_number told (kept_sets c.self.inside.layout kept cpu.number zone.number) =
    c.is_number.ensures
    ∙ ap (λ (found : Option ℕ). is_number found c.sets_at-newest.result) c.acknowledged_of-found.ensures
    ∙ ap (is_number told) c.sets_at-newest.ensures in
    subst (IsControlPass c.load_at.new.self)
    (sym (c.keep_found.ensures
    ∙ ap (λ (b : Bool). with_kept_peak c.self.inside.layout cpu.number zone.number b kept) newest
    ∙ ap (λ (shape : Shape). with_kept_peak shape cpu.number zone.number
    (is_number told (kept_sets shape kept cpu.number zone.number)) kept) same))
    (IsControlPass-made c.load_at.new.self pass kept (LoadA cpu zone told) c.pass.invariant c.load_at.ensures)
