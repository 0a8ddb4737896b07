-- The take of a group before which nothing of its place was taken.
use Rattle.std.proofs.Common.{◌∙◌, ap, arith, add-one}
use Rattle.vms_cursors.specs.Folds.{fold_at}
use Rattle.vms_cursors.specs.declared.fold_positions.FoldPosition.TheVariants.{Entries, Groups}
use Rattle.vms_cursors.proofs.FoldGoes.{take-goes}
use Rattle.vms_cursors.proofs.LayoutGroups.{few-groups}
use Rattle.vms_cursor_steps.proofs.Along.{goes-through}
use Rattle.vms_cursor_steps.proofs.fold_steps.first_take_on.Goals as goal

pub add_list-requires : goal.add_list-requires
add_list-requires c = omega (
  arith,
  c.in-Some-group_place.ensures.more,
  few-groups c.args.layout.now c.requires.layout c.in-Some-group_place.of c.in-Some-group_place.ensures.within,
)

pub returns-in-Some-group_place-clause-goes : goal.returns-in-Some-group_place-clause-goes
returns-in-Some-group_place-clause-goes c = λ yes.
    let shape = c.args.layout.now in
    let fold = c.args.fold in
    let step = c.args.step.now in
    let taken = c.in-Groups.taken in
    let place = c.in-Groups.place in
    let number = c.in-Groups.number in
    let of = c.in-Some-group_place.of in
    let next = c.in-Some-group_place.ensures in
    let list = c.in-Some.list in
    let later = c.add_list.new.taken in
    goes-through (fold_at shape fold c.args.at.now) (fold_at shape fold (Groups taken place number))
    (fold_at shape fold (Groups taken of number)) step (fold_at shape fold (Entries later of number list 0))
    (ap (fold_at shape fold) c.in-Groups.is) next.same
    (take-goes shape taken fold of number next.more step later list
    (c.add_list.ensures.groups ∙ add-one taken.groups) c.add_list.ensures.totals
    c.add_list.ensures.whole c.in-Some.ensures)
