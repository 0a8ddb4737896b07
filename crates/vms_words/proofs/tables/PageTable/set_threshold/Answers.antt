-- The goals were that what is kept is of the table's layout, that the threshold may be counted once more, that the pass
-- may set it, and that it keeps that it did.
use Rattle.std.proofs.Common.{◌≡◌, ◌+◌, ◌<◌, sym, ap, ◌∙◌, subst, arith}
use Rattle.vms_seats.specs.Common.{Pass, MayStep}
use Rattle.vms_calls.specs.Common.{Shape, Facts, Step, SetT, threshold_sets_at, SetsThreshold, pages, state_after}
use Rattle.vms_calls.specs.Common.{most_sets}
use Rattle.vms_words.specs.declared.spots.Spot.TheVariants.{Threshold}
use Rattle.vms_words.specs.Common.{IsControlPass, IsKept, kept_sets, with_kept_threshold, place_in, told}
use Rattle.vms_words.specs.Shown.{shown}
use Rattle.vms_words.specs.Spots.{blocks_of}
use Rattle.vms_words.proofs.ControlPasses.{IsControlPass-made, worker-of, worker-knows}
use Rattle.vms_words.proofs.InTables.{may-at, known-in, of-layout}
use Rattle.vms_words.proofs.ThresholdSteps.{threshold-may}
use Rattle.vms_words.proofs.tables.PageTable.set_threshold.Goals as goal

pub sets_at-number-requires-clause-kept : goal.sets_at-number-requires-clause-kept
sets_at-number-requires-clause-kept c =
    let pass = c.pass.inside.worker in
    let of = worker-of pass c.args.pass.now c.args.self.now c.pass.view_is c.requires.table in
    known-in c.self.inside.layout c.self.inside.blocks c.self.inside.words c.args.self.now pass c.self.invariant
    c.self.view_is of (λ shape. IsKept shape c.pass.inside.kept) c.pass.invariant.knows.is_kept

pub keep_threshold-requires-clause-kept : goal.keep_threshold-requires-clause-kept
keep_threshold-requires-clause-kept c =
    let pass = c.pass.inside.worker in
    let of = worker-of pass c.args.pass.now c.args.self.now c.pass.view_is c.requires.table in
    known-in c.self.inside.layout c.self.inside.blocks c.self.inside.words c.args.self.now pass c.self.invariant
    c.self.view_is of (λ shape. IsKept shape c.pass.inside.kept) c.pass.invariant.knows.is_kept

pub keep_threshold-requires-clause-sets : goal.keep_threshold-requires-clause-sets
keep_threshold-requires-clause-sets c =
    let pass = c.pass.inside.worker in
    let cpu = c.args.cpu in
    let place = c.args.place in
    let of = worker-of pass c.args.pass.now c.args.self.now c.pass.view_is c.requires.table in
    let few : threshold_sets_at (state_after pass.facts pass.seen) cpu.number place.number < most_sets =
    worker-knows pass c.args.pass.now c.args.self.now c.pass.view_is c.requires.table
    (λ (facts : Facts) (p : Pass Facts Step).
    threshold_sets_at (state_after facts p.seen) cpu.number place.number < most_sets) c.requires.number in
    let sets = worker-knows pass c.args.pass.now c.args.self.now c.pass.view_is c.requires.table
    (λ (facts : Facts) (p : Pass Facts Step).
    SetsThreshold facts p.seen (state_after facts p.seen) p.number cpu place c.args.t) c.requires.sets in
    let kept : kept_sets c.self.inside.layout c.pass.inside.kept cpu.number place.number
    ≡ threshold_sets_at (state_after pass.facts pass.seen) cpu.number place.number =
    ap (λ (shape : Shape). kept_sets shape c.pass.inside.kept cpu.number place.number)
    (of-layout c.self.inside.layout c.self.inside.blocks c.self.inside.words c.args.self.now pass c.self.invariant
    c.self.view_is of)
    ∙ c.pass.invariant.knows.threshold_sets cpu.number place.number sets.cpu sets.place in
    subst (λ n. n < most_sets) (sym kept) few

pub overflow_add-number : goal.overflow_add-number
overflow_add-number c =
    let pass = c.pass.inside.worker in
    let cpu = c.args.cpu in
    let place = c.args.place in
    let of = worker-of pass c.args.pass.now c.args.self.now c.pass.view_is c.requires.table in
    let few : threshold_sets_at (state_after pass.facts pass.seen) cpu.number place.number < most_sets =
    worker-knows pass c.args.pass.now c.args.self.now c.pass.view_is c.requires.table
    (λ (facts : Facts) (p : Pass Facts Step).
    threshold_sets_at (state_after facts p.seen) cpu.number place.number < most_sets) c.requires.number in
    let sets = worker-knows pass c.args.pass.now c.args.self.now c.pass.view_is c.requires.table
    (λ (facts : Facts) (p : Pass Facts Step).
    SetsThreshold facts p.seen (state_after facts p.seen) p.number cpu place c.args.t) c.requires.sets in
    let kept : kept_sets c.self.inside.layout c.pass.inside.kept cpu.number place.number
    ≡ threshold_sets_at (state_after pass.facts pass.seen) cpu.number place.number =
    ap (λ (shape : Shape). kept_sets shape c.pass.inside.kept cpu.number place.number)
    (of-layout c.self.inside.layout c.self.inside.blocks c.self.inside.words c.args.self.now pass c.self.invariant
    c.self.view_is of)
    ∙ c.pass.invariant.knows.threshold_sets cpu.number place.number sets.cpu sets.place in
    let low : c.sets_at-number.result < most_sets =
    subst (λ n. n < most_sets) (sym (c.sets_at-number.ensures ∙ kept)) few in
    omega arith

pub swap_at-requires-clause-step : goal.swap_at-requires-clause-step
swap_at-requires-clause-step c =
    let pass = c.pass.inside.worker in
    let cpu = c.args.cpu in
    let place = c.args.place in
    let of = worker-of pass c.args.pass.now c.args.self.now c.pass.view_is c.requires.table in
    let sets = worker-knows pass c.args.pass.now c.args.self.now c.pass.view_is c.requires.table
    (λ (facts : Facts) (p : Pass Facts Step).
    SetsThreshold facts p.seen (state_after facts p.seen) p.number cpu place c.args.t) c.requires.sets in
    let number : c.sets_at-number.result
    ≡ threshold_sets_at (state_after pass.facts pass.seen) cpu.number place.number =
    c.sets_at-number.ensures
    ∙ ap (λ (shape : Shape). kept_sets shape c.pass.inside.kept cpu.number place.number)
    (of-layout c.self.inside.layout c.self.inside.blocks c.self.inside.words c.args.self.now pass c.self.invariant
    c.self.view_is of)
    ∙ c.pass.invariant.knows.threshold_sets cpu.number place.number sets.cpu sets.place in
    may-at c.self.inside.layout c.self.inside.blocks c.self.inside.words c.args.self.now pass c.self.invariant
    c.self.view_is of (Threshold cpu place) c.place_of-at.result c.place_of-at.ensures.value
    (λ n. c.threshold_word-word.result) (told (SetT cpu place c.args.t))
    (subst
    (λ word. MayStep pages shown pass (place_in (blocks_of pass.facts.layout) (Threshold cpu place))
    (λ n. word) (told (SetT cpu place c.args.t)))
    (sym c.threshold_word-word.ensures)
    (threshold-may pass cpu place c.args.t (c.sets_at-number.result + 1) sets (ap (λ n. n + 1) (sym number))))

pub invariant_of-pass : goal.invariant_of-pass
invariant_of-pass c =
    let pass = c.pass.inside.worker in
    let of = worker-of pass c.args.pass.now c.args.self.now c.pass.view_is c.requires.table in
    subst (IsControlPass c.swap_at.new.self)
    (sym (c.keep_threshold.ensures
    ∙ ap (λ (shape : Shape). with_kept_threshold shape c.args.cpu.number c.args.place.number c.args.t
    c.pass.inside.kept)
    (of-layout c.self.inside.layout c.self.inside.blocks c.self.inside.words c.args.self.now pass c.self.invariant
    c.self.view_is of)))
    (IsControlPass-made c.swap_at.new.self pass c.pass.inside.kept (SetT c.args.cpu c.args.place c.args.t)
    c.pass.invariant c.swap_at.ensures)
