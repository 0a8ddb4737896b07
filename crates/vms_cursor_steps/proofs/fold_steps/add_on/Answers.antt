-- The addition of the next entry or item.
use Rattle.std.proofs.Common.{◌+◌, ◌-◌, ℤ, pos, refl, sym, subst}
use Rattle.std.specs.Prelude.{slice_index_or}
use Rattle.vms_calls.specs.Common.{CounterId, ItemId, first_of_group}
use Rattle.vms_cursors.specs.Cursors.{GoesOn}
use Rattle.vms_cursors.specs.Folds.{fold_at}
use Rattle.vms_cursors.specs.Totals.{total_at}
use Rattle.vms_cursors.specs.declared.fold_positions.FoldPosition.{FoldPosition}
use Rattle.vms_cursors.specs.declared.fold_positions.FoldPosition.TheVariants.{Entries, Items}
use Rattle.vms_cursors.proofs.FoldGoes.{entry-goes, item-goes}
use Rattle.vms_cursors.proofs.StepReadings.{added-read, added_to_item-read}
use Rattle.vms_cursor_steps.proofs.fold_steps.add_on.Goals as goal

pub returns-in-Some-clause-goes : goal.returns-in-Some-clause-goes
returns-in-Some-clause-goes c = λ yes.
    let shape = c.args.layout.now in
    let fold = c.args.fold in
    let step = c.args.step.now in
    let taken = c.in-Entries.taken in
    let g = c.in-Entries.field-1 in
    let number = c.in-Entries.field-2 in
    let list = c.in-Entries.list in
    let from = c.in-Entries.n in
    let of = c.in-Some.of in
    let next = c.in-Some.ensures.0 in
    let z : ℤ = slice_index_or list.values of (pos 0) in
    let counter : CounterId = record { number = first_of_group (taken.groups - 1) + of } in
    subst (λ (at : FoldPosition). GoesOn (fold_at shape fold at) step
    (fold_at shape fold (Entries taken g number list (of + 1)))) (sym c.in-Entries.is)
    (entry-goes shape taken fold g number list next.whole from of next.same next.less z refl next.some counter refl step
    (added-read counter step z c.in-Some.ensures.1))

pub returns-in-Some-added_item-clause-goes : goal.returns-in-Some-added_item-clause-goes
returns-in-Some-added_item-clause-goes c = λ yes.
    let shape = c.args.layout.now in
    let fold = c.args.fold in
    let step = c.args.step.now in
    let taken = c.in-Items.taken in
    let from = c.in-Items.item in
    let of = c.in-Some-added_item.of in
    let next = c.in-Some-added_item.ensures.0 in
    let z : ℤ = total_at taken.totals of in
    let item : ItemId = record { number = of } in
    subst (λ (at : FoldPosition). GoesOn (fold_at shape fold at) step (fold_at shape fold (Items taken (of + 1))))
    (sym c.in-Items.is)
    (item-goes shape taken from of next.same next.less z refl next.some step
    (added_to_item-read item step z c.in-Some-added_item.ensures.1))
