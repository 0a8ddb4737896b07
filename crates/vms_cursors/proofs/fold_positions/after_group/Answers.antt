-- A group more, and the end of a place.
use Rattle.std.proofs.Common.{◌≤◌, ◌+◌, ◌*◌, ◌/◌, [], ◌∙◌, ap, arith}
use Rattle.vms_cursors.specs.Folds.{fold_at, place_end}
use Rattle.vms_cursors.specs.declared.fold_positions.FoldPosition.TheVariants.{Groups, Places}
use Rattle.vms_cursors.proofs.FoldGoes.{groups-none}
use Rattle.vms_cursors.proofs.LayoutGroups.{few-places}
use Rattle.vms_cursors.proofs.PlanEquations.{some-along, stops-along}
use Rattle.vms_cursors.proofs.fold_positions.after_group.Goals as goal

pub overflow_add-place : goal.overflow_add-place
overflow_add-place c =
    omega (arith, few-places c.args.layout.now c.requires.layout c.args.place c.requires.within.0)

pub returns-in-None-clause-goes : goal.returns-in-None-clause-goes
returns-in-None-clause-goes c =
    let shape = c.args.layout.now in
    let g = c.args.place in
    let most : shape.positions / 8 * (g + 1) ≤ c.args.taken.groups =
    omega (arith, c.if-taken-groups_through.false, c.groups_through.ensures) in
    some-along (fold_at shape c.args.fold (Places c.args.taken (g + 1)))
    (fold_at shape c.args.fold (Groups c.args.taken g c.args.number)) c.args.step (fold_at shape c.args.fold)
    (groups-none shape c.args.taken c.args.fold g c.args.number most
    ∙ ap (λ number. place_end shape c.args.taken c.args.fold g number []) c.in-None.is)
    c.after_place.result c.after_place.ensures.goes

pub returns-in-None-clause-stops : goal.returns-in-None-clause-stops
returns-in-None-clause-stops c = λ none.
    let shape = c.args.layout.now in
    let g = c.args.place in
    let most : shape.positions / 8 * (g + 1) ≤ c.args.taken.groups =
    omega (arith, c.if-taken-groups_through.false, c.groups_through.ensures) in
    stops-along (fold_at shape c.args.fold (Places c.args.taken (g + 1)))
    (fold_at shape c.args.fold (Groups c.args.taken g c.args.number)) c.args.step
    (groups-none shape c.args.taken c.args.fold g c.args.number most
    ∙ ap (λ number. place_end shape c.args.taken c.args.fold g number []) c.in-None.is)
    (c.after_place.ensures.stops none)
