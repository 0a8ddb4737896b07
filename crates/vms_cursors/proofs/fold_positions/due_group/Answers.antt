-- A group more, and the end of a place.
use Rattle.std.proofs.Common.{◌<◌, ◌≤◌, ◌+◌, ◌*◌, ◌/◌, [], ◌∙◌, ap, arith}
use Rattle.vms_calls.specs.Common.{SetA}
use Rattle.vms_cursors.specs.Folds.{fold_at, place_end, places_from}
use Rattle.vms_cursors.specs.declared.fold_positions.FoldPosition.TheVariants.{Groups, Places}
use Rattle.vms_cursors.proofs.FoldGoes.{groups-none, makes-due, take-due}
use Rattle.vms_cursors.proofs.LayoutGroups.{few-places}
use Rattle.vms_cursors.proofs.PlanEquations.{ended-along, some_due-along}
use Rattle.vms_cursors.proofs.fold_positions.due_group.Goals as goal

pub overflow_add-place : goal.overflow_add-place
overflow_add-place c =
    omega (arith, few-places c.args.layout.now c.requires.layout c.args.place c.requires.within.0)

pub returns-then-taken-groups_through-clause-due : goal.returns-then-taken-groups_through-clause-due
returns-then-taken-groups_through-clause-due c =
    let less : c.args.taken.groups < c.args.layout.now.positions / 8 * (c.args.place + 1) =
    omega (arith, c.if-taken-groups_through.true, c.groups_through.ensures) in
    take-due c.args.layout.now c.args.taken c.args.fold c.args.place c.args.number less

pub returns-in-Some-clause-due : goal.returns-in-Some-clause-due
returns-in-Some-clause-due c =
    let shape = c.args.layout.now in
    let a = c.in-Some.number in
    let g = c.args.place in
    let most : shape.positions / 8 * (g + 1) ≤ c.args.taken.groups =
    omega (arith, c.if-taken-groups_through.false, c.groups_through.ensures) in
    makes-due (fold_at shape c.args.fold (Groups c.args.taken g c.args.number))
    (places_from shape c.args.taken c.args.fold (g + 1) []) (SetA (record { number = g }) a)
    (groups-none shape c.args.taken c.args.fold g c.args.number most
    ∙ ap (λ number. place_end shape c.args.taken c.args.fold g number []) c.in-Some.is)

pub returns-in-None-clause-due : goal.returns-in-None-clause-due
returns-in-None-clause-due c =
    let shape = c.args.layout.now in
    let g = c.args.place in
    let most : shape.positions / 8 * (g + 1) ≤ c.args.taken.groups =
    omega (arith, c.if-taken-groups_through.false, c.groups_through.ensures) in
    some_due-along (fold_at shape c.args.fold (Places c.args.taken (g + 1)))
    (fold_at shape c.args.fold (Groups c.args.taken g c.args.number))
    (groups-none shape c.args.taken c.args.fold g c.args.number most
    ∙ ap (λ number. place_end shape c.args.taken c.args.fold g number []) c.in-None.is)
    c.due_place.result c.due_place.ensures.due

pub returns-in-None-clause-ended : goal.returns-in-None-clause-ended
returns-in-None-clause-ended c = λ none.
    let shape = c.args.layout.now in
    let g = c.args.place in
    let most : shape.positions / 8 * (g + 1) ≤ c.args.taken.groups =
    omega (arith, c.if-taken-groups_through.false, c.groups_through.ensures) in
    ended-along (fold_at shape c.args.fold (Places c.args.taken (g + 1)))
    (fold_at shape c.args.fold (Groups c.args.taken g c.args.number)) (tt {0})
    (groups-none shape c.args.taken c.args.fold g c.args.number most
    ∙ ap (λ number. place_end shape c.args.taken c.args.fold g number []) c.in-None.is)
    (c.due_place.ensures.ended none)
