-- The goals were that the pass may set the mark, and that it keeps that it did.
use Rattle.std.proofs.Common.{◌≡◌, ◌+◌, sym, ap, ◌∙◌, subst}
use Rattle.vms_seats.specs.Common.{Pass, MayStep}
use Rattle.vms_calls.specs.Common.{Facts, Step, SetM, mark_sets_at, SetsMark, pages, state_after}
use Rattle.vms_words.specs.declared.spots.Spot.TheVariants.{Mark}
use Rattle.vms_words.specs.Common.{IsControlPass, place_in, told}
use Rattle.vms_words.specs.Shown.{shown}
use Rattle.vms_words.specs.Spots.{blocks_of}
use Rattle.vms_words.proofs.ControlPasses.{IsControlPass-made, worker-of, worker-knows}
use Rattle.vms_words.proofs.InTables.{may-at}
use Rattle.vms_words.proofs.MarkSteps.{mark-may}
use Rattle.vms_words.proofs.tables.PageTable.set_mark.Goals as goal

pub swap_at-requires-clause-step : goal.swap_at-requires-clause-step
swap_at-requires-clause-step c =
    let pass = c.pass.inside.worker in
    let zone = c.args.zone in
    let of = worker-of pass c.args.pass.now c.args.self.now c.pass.view_is c.requires.table in
    let sets = worker-knows pass c.args.pass.now c.args.self.now c.pass.view_is c.requires.table
    (λ (facts : Facts) (p : Pass Facts Step). SetsMark facts p.seen p.number zone c.args.m) c.requires.sets in
    let number : c.get-number.result ≡ mark_sets_at (state_after pass.facts pass.seen) zone.number =
    sym (c.get-number.ensures 0) ∙ c.pass.invariant.knows.mark_sets zone.number sets.zone in
    may-at c.self.inside.layout c.self.inside.blocks c.self.inside.words c.args.self.now pass c.self.invariant
    c.self.view_is of (Mark zone) c.place_of-at.result c.place_of-at.ensures.value
    (λ n. c.mark_word-word.result) (told (SetM zone c.args.m))
    (subst
    (λ word. MayStep pages shown pass (place_in (blocks_of pass.facts.layout) (Mark zone))
    (λ n. word) (told (SetM zone c.args.m)))
    (sym c.mark_word-word.ensures)
    (mark-may pass zone c.args.m (c.get-number.result + 1) sets (ap (λ n. n + 1) (sym number))))

pub invariant_of-pass : goal.invariant_of-pass
invariant_of-pass c =
    subst (IsControlPass c.swap_at.new.self) (sym c.keep_mark.ensures)
    (IsControlPass-made c.swap_at.new.self c.pass.inside.worker c.pass.inside.kept (SetM c.args.zone c.args.m)
    c.pass.invariant c.swap_at.ensures)
