-- The acknowledgement after the last list of a place.
use Rattle.std.proofs.Common.{◌≡◌, ◌∙◌, ◌≤◌, ◌+◌, ◌*◌, ◌/◌, ℕ, [], sym, ap, subst, arith}
use Rattle.std.specs.Prelude.{IsSome, None, Option, Some}
use Rattle.vms_calls.specs.Common.{PlaceId, SetA, Shape, Step}
use Rattle.vms_cursors.specs.Cursors.{GoesOn}
use Rattle.vms_cursors.specs.Folds.{fold_at, places_from}
use Rattle.vms_cursors.specs.StepReadings.{acknowledged_in}
use Rattle.vms_cursors.specs.declared.fold_positions.FoldPosition.TheVariants.{Groups, Places}
use Rattle.vms_cursors.specs.declared.folds.Fold.{Fold}
use Rattle.vms_cursors.specs.declared.taken.Taken.{Taken}
use Rattle.vms_cursors.proofs.FoldGoes.{groups-none, list-over, makes-goes}
use Rattle.vms_cursors.proofs.StepReadings.{acknowledged-read}
use Rattle.vms_cursor_steps.proofs.fold_steps.acknowledge_on.Goals as goal

acknowledged-goes : (shape : Shape) (taken : Taken) (fold : Fold) (g : ℕ) (number : Option ℕ) (step : Step)
    → IsSome number → acknowledged_in g step ≡ number → shape.positions / 8 * (g + 1) ≤ taken.groups
    → GoesOn (fold_at shape fold (Groups taken g number)) step (fold_at shape fold (Places taken (g + 1)))
acknowledged-goes shape taken fold g None step some told most = absurd cc
acknowledged-goes shape taken fold g (Some a) step some told most =
    let place : PlaceId = record { number = g } in
    makes-goes (fold_at shape fold (Groups taken g (Some a))) (places_from shape taken fold (g + 1) []) (SetA place a)
    (groups-none shape taken fold g (Some a) most) step (acknowledged-read place step a told)

pub returns-else-taken-groups_through-clause-goes : goal.returns-else-taken-groups_through-clause-goes
returns-else-taken-groups_through-clause-goes c = λ yes.
    let shape = c.args.layout.now in
    let fold = c.args.fold in
    let step = c.args.step.now in
    let taken = c.in-Entries.taken in
    let place = c.in-Entries.place in
    let number = c.in-Entries.number in
    let list = c.in-Entries.list in
    let told = c.is_acknowledgement.ensures c.if-not-is_acknowledgement.false in
    let most : shape.positions / 8 * (place + 1) ≤ taken.groups =
    omega (arith, c.if-taken-groups_through.false, c.groups_through.ensures) in
    subst (λ x. GoesOn x step (fold_at shape fold (Places taken (place + 1))))
    (sym (ap (fold_at shape fold) c.in-Entries.is
    ∙ list-over shape taken fold place number list c.some_entry.ensures.whole c.in-Entries.n c.some_entry.result
    c.some_entry.ensures.same (omega (arith, c.if-some_entry-lt8.false))))
    (acknowledged-goes shape taken fold place number step told.0 told.1 most)
