-- A place whose threshold is acknowledged, and one of another.
use Rattle.std.proofs.Common.{◌<◌, sym, ◌∙◌, arith}
use Rattle.std.specs.Prelude.{None}
use Rattle.vms_calls.specs.Common.{place_count}
use Rattle.vms_cursors.specs.Folds.{fold_at}
use Rattle.vms_cursors.specs.declared.fold_positions.FoldPosition.TheVariants.{Places, Groups}
use Rattle.vms_cursors.proofs.FoldGoes.{first-is_left, place-goes, place-stops, place-unknown}
use Rattle.vms_cursors.proofs.LayoutGroups.{eight-each}
use Rattle.vms_cursors.proofs.PlanEquations.{some-along, stops-along}
use Rattle.vms_cursors.proofs.fold_positions.after_place.Goals as goal

pub returns-then-not-is_acknowledged-clause-goes : goal.returns-then-not-is_acknowledged-clause-goes
returns-then-not-is_acknowledged-clause-goes c =
    let shape = c.args.layout.now in
    let less : c.args.place < place_count shape = omega (arith, c.if-place-places.false, c.places.ensures.value) in
    some-along (fold_at shape c.args.fold (Groups c.args.taken c.args.place None))
    (fold_at shape c.args.fold (Places c.args.taken c.args.place)) c.args.step (fold_at shape c.args.fold)
    (place-unknown shape c.args.taken c.args.fold c.args.place less c.requires.within.1
    (eight-each shape c.requires.layout) (sym c.is_acknowledged.ensures ∙ c.if-not-is_acknowledged.true))
    c.after_take.result c.after_take.ensures.goes

pub returns-then-not-is_acknowledged-clause-stops : goal.returns-then-not-is_acknowledged-clause-stops
returns-then-not-is_acknowledged-clause-stops c = λ none.
    let shape = c.args.layout.now in
    let less : c.args.place < place_count shape = omega (arith, c.if-place-places.false, c.places.ensures.value) in
    stops-along (fold_at shape c.args.fold (Groups c.args.taken c.args.place None))
    (fold_at shape c.args.fold (Places c.args.taken c.args.place)) c.args.step
    (place-unknown shape c.args.taken c.args.fold c.args.place less c.requires.within.1
    (eight-each shape c.requires.layout) (sym c.is_acknowledged.ensures ∙ c.if-not-is_acknowledged.true))
    (c.after_take.ensures.stops none)

pub after_take-requires-clause-more : goal.after_take-requires-clause-more
after_take-requires-clause-more c =
    first-is_left c.args.layout.now c.requires.layout c.args.taken c.args.place c.requires.within.1

pub returns-in-Some-clause-goes : goal.returns-in-Some-clause-goes
returns-in-Some-clause-goes c =
    let shape = c.args.layout.now in
    let less : c.args.place < place_count shape = omega (arith, c.if-place-places.false, c.places.ensures.value) in
    place-goes shape c.args.taken c.args.fold c.args.place less c.requires.within.1
    (eight-each shape c.requires.layout) (sym c.is_acknowledged.ensures ∙ c.if-not-is_acknowledged.false)
    c.args.step c.in-Some.number (sym c.in-Some.ensures)

pub returns-in-None-clause-stops : goal.returns-in-None-clause-stops
returns-in-None-clause-stops c = λ none.
    let shape = c.args.layout.now in
    let less : c.args.place < place_count shape = omega (arith, c.if-place-places.false, c.places.ensures.value) in
    place-stops shape c.args.taken c.args.fold c.args.place less c.requires.within.1
    (eight-each shape c.requires.layout) (sym c.is_acknowledged.ensures ∙ c.if-not-is_acknowledged.false)
    c.args.step (sym c.in-None.ensures)
