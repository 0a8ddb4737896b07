-- The addition of the next entry, any other step, and what follows the list.
use Rattle.std.proofs.Common.{rules, ◌≡◌, ◌<◌, ℤ, pos, length, refl, sym, arith, ◌∙◌}
use Rattle.std.proofs.lemmas.Int.{ints}
use Rattle.std.specs.Prelude.{slice_index_or}
use Rattle.vms_calls.specs.Common.{AddG, CounterId}
use Rattle.vms_cursors.specs.Folds.{fold_at}
use Rattle.vms_cursors.specs.declared.fold_positions.FoldPosition.TheVariants.{Entries, Groups}
use Rattle.vms_cursors.proofs.FoldGoes.{entry-goes, entry-stops, list-over}
use Rattle.vms_cursors.proofs.LayoutGroups.{few-groups}
use Rattle.vms_cursors.proofs.PlanEquations.{some-along, stops-along}
use Rattle.vms_cursors.proofs.StepReadings.{added-other, added-read}
use Rattle.vms_cursors.proofs.fold_positions.after_entry.Goals as goal

pub entry_counter-requires-clause-few : goal.entry_counter-requires-clause-few
entry_counter-requires-clause-few c = omega (
  arith,
  c.requires.within.2,
  few-groups c.args.layout.now c.requires.layout c.args.place c.requires.within.0,
)

pub returns-then-n-ge8-clause-goes : goal.returns-then-n-ge8-clause-goes
returns-then-n-ge8-clause-goes c =
    let shape = c.args.layout.now in
    let long : length c.args.list.values ≡ 8 = search rules in
    some-along (fold_at shape c.args.fold (Groups c.args.taken c.args.place c.args.number))
    (fold_at shape c.args.fold (Entries c.args.taken c.args.place c.args.number c.args.list c.args.from))
    c.args.step (fold_at shape c.args.fold)
    (list-over shape c.args.taken c.args.fold c.args.place c.args.number c.args.list long c.args.from
    c.some_entry-n.result c.some_entry-n.ensures.same c.if-n-ge8.true)
    c.after_group.result c.after_group.ensures.goes

pub returns-then-n-ge8-clause-stops : goal.returns-then-n-ge8-clause-stops
returns-then-n-ge8-clause-stops c = λ none.
    let shape = c.args.layout.now in
    let long : length c.args.list.values ≡ 8 = search rules in
    stops-along (fold_at shape c.args.fold (Groups c.args.taken c.args.place c.args.number))
    (fold_at shape c.args.fold (Entries c.args.taken c.args.place c.args.number c.args.list c.args.from))
    c.args.step
    (list-over shape c.args.taken c.args.fold c.args.place c.args.number c.args.list long c.args.from
    c.some_entry-n.result c.some_entry-n.ensures.same c.if-n-ge8.true)
    (c.after_group.ensures.stops none)

pub returns-in-Some-clause-goes : goal.returns-in-Some-clause-goes
returns-in-Some-clause-goes c =
    let n = c.some_entry-n.result in
    let long : length c.args.list.values ≡ 8 = search rules in
    let less : n < 8 = omega (arith, c.if-n-ge8.false) in
    let same : slice_index_or c.args.list.values n (pos 0) ≡ c.in-Some.added =
    omega (arith, ints, c.if-added-list.true) in
    entry-goes c.args.layout.now c.args.taken c.args.fold c.args.place c.args.number c.args.list long c.args.from n
    c.some_entry-n.ensures.same less c.in-Some.added same
    (λ none. c.some_entry-n.ensures.some less (same ∙ none)) c.entry_counter.result c.entry_counter.ensures
    c.args.step (added-read c.entry_counter.result c.args.step c.in-Some.added (sym c.in-Some.ensures))

pub returns-in_default-clause-stops : goal.returns-in_default-clause-stops
returns-in_default-clause-stops c = λ none.
    let n = c.some_entry-n.result in
    let long : length c.args.list.values ≡ 8 = search rules in
    let less : n < 8 = omega (arith, c.if-n-ge8.false) in
    let k : CounterId = c.entry_counter.result in
    let z : ℤ = slice_index_or c.args.list.values n (pos 0) in
    let differ : c.in-Some.added ≡ z → ⊥ = λ same. absurd (omega (arith, ints, c.if-added-list.false, same)) in
    entry-stops c.args.layout.now c.args.taken c.args.fold c.args.place c.args.number c.args.list long c.args.from n
    c.some_entry-n.ensures.same less z refl (c.some_entry-n.ensures.some less) k c.entry_counter.ensures c.args.step
    (λ same. differ (added-same k c.in-Some.added z
    (added-read k c.args.step c.in-Some.added (sym c.in-Some.ensures) ∙ sym same)))
  where
    added-same : (k : CounterId) (a b : ℤ) → AddG k a ≡ AddG k b → a ≡ b
    added-same k a b same = cc

pub returns-in_default-2-clause-stops : goal.returns-in_default-2-clause-stops
returns-in_default-2-clause-stops c = λ none.
    let n = c.some_entry-n.result in
    let long : length c.args.list.values ≡ 8 = search rules in
    let less : n < 8 = omega (arith, c.if-n-ge8.false) in
    let z : ℤ = slice_index_or c.args.list.values n (pos 0) in
    entry-stops c.args.layout.now c.args.taken c.args.fold c.args.place c.args.number c.args.list long c.args.from n
    c.some_entry-n.ensures.same less z refl (c.some_entry-n.ensures.some less) c.entry_counter.result
    c.entry_counter.ensures c.args.step
    (added-other c.entry_counter.result c.args.step (sym c.in_default.ensures) z)
