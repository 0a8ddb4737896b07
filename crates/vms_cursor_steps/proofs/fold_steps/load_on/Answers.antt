-- The threshold that is loaded is to be acknowledged after the groups of its place.
use Rattle.std.proofs.Common.{◌≡◌, ◌*◌, ◌/◌, sym, subst}
use Rattle.std.specs.Prelude.{Some}
use Rattle.vms_cursors.specs.Cursors.{GoesOn}
use Rattle.vms_cursors.specs.Folds.{IsFoldWithin, fold_at}
use Rattle.vms_cursors.specs.declared.fold_positions.FoldPosition.{FoldPosition}
use Rattle.vms_cursors.specs.declared.fold_positions.FoldPosition.TheVariants.{Groups}
use Rattle.vms_cursors.proofs.FoldGoes.{place-goes}
use Rattle.vms_cursors.proofs.LayoutGroups.{eight-each}
use Rattle.vms_cursor_steps.proofs.fold_steps.load_on.Goals as goal

pub returns-in-Some-clause-goes : goal.returns-in-Some-clause-goes
returns-in-Some-clause-goes c = λ yes.
    let shape = c.args.layout.now in
    let fold = c.args.fold in
    let step = c.args.step.now in
    let taken = c.in-Places.taken in
    let g = c.in-Places.place in
    let loaded = c.in-Some.ensures in
    let groups : taken.groups ≡ shape.positions / 8 * g =
    (subst (λ (at : FoldPosition). IsFoldWithin shape at) c.in-Places.is c.requires.within).1 in
    subst (λ (at : FoldPosition). GoesOn (fold_at shape fold at) step
    (fold_at shape fold (Groups taken g (Some c.in-Some.number)))) (sym c.in-Places.is)
    (place-goes shape taken fold g loaded.0 groups (eight-each shape c.requires.layout) loaded.1 step c.in-Some.number
    loaded.2)
