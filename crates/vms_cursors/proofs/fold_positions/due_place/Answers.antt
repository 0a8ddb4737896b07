-- The load of the threshold is due, or the take of the first group.
use Rattle.std.proofs.Common.{◌<◌, sym, ◌∙◌, arith}
use Rattle.std.specs.Prelude.{None}
use Rattle.vms_calls.specs.Common.{place_count}
use Rattle.vms_plans.specs.declared.due_steps.DueStep.TheVariants.{Takes}
use Rattle.vms_cursors.specs.Folds.{fold_at}
use Rattle.vms_cursors.specs.declared.fold_positions.FoldPosition.TheVariants.{Places, Groups}
use Rattle.vms_cursors.proofs.FoldGoes.{first-is_left, place-due, place-unknown, take-due}
use Rattle.vms_cursors.proofs.LayoutGroups.{eight-each}
use Rattle.vms_cursors.proofs.PlanEquations.{due-along}
use Rattle.vms_cursors.proofs.fold_positions.due_place.Goals as goal

pub returns-then-is_acknowledged-clause-due : goal.returns-then-is_acknowledged-clause-due
returns-then-is_acknowledged-clause-due c =
    let shape = c.args.layout.now in
    let less : c.args.place < place_count shape = omega (arith, c.if-place-places.false, c.places.ensures.value) in
    place-due shape c.args.taken c.args.fold c.args.place less c.requires.within.1
    (eight-each shape c.requires.layout) (sym c.is_acknowledged.ensures ∙ c.if-is_acknowledged.true)

pub returns-clause-due : goal.returns-clause-due
returns-clause-due c =
    let shape = c.args.layout.now in
    let less : c.args.place < place_count shape = omega (arith, c.if-place-places.false, c.places.ensures.value) in
    due-along (fold_at shape c.args.fold (Groups c.args.taken c.args.place None))
    (fold_at shape c.args.fold (Places c.args.taken c.args.place))
    (Takes c.args.fold.cpu (record { number = c.args.taken.groups }))
    (place-unknown shape c.args.taken c.args.fold c.args.place less c.requires.within.1
    (eight-each shape c.requires.layout) (sym c.is_acknowledged.ensures ∙ c.if-is_acknowledged.false))
    (take-due shape c.args.taken c.args.fold c.args.place None
    (first-is_left shape c.requires.layout c.args.taken c.args.place c.requires.within.1))
