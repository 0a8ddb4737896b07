-- The addition of the next entry, or what is due after the list.
use Rattle.std.proofs.Common.{rules, FitsSigned, ◌≡◌, ℤ, pos, length, sym, to_z, of_z, w64, arith, ◌∙◌}
use Rattle.std.proofs.lemmas.Int.{to_z-of_z}
use Rattle.std.specs.Prelude.{slice_index_or}
use Rattle.vms_cursors.specs.Folds.{fold_at}
use Rattle.vms_cursors.specs.declared.fold_positions.FoldPosition.TheVariants.{Entries, Groups}
use Rattle.vms_cursors.proofs.FoldGoes.{entry-due, list-over}
use Rattle.vms_cursors.proofs.LayoutGroups.{few-groups}
use Rattle.vms_cursors.proofs.PlanEquations.{ended-along, some_due-along}
use Rattle.vms_cursors.proofs.fold_positions.due_entry.Goals as goal

pub entry_counter-requires-clause-few : goal.entry_counter-requires-clause-few
entry_counter-requires-clause-few c = omega (
  arith,
  c.requires.within.2,
  few-groups c.args.layout.now c.requires.layout c.args.place c.requires.within.0,
)

pub returns-then-n-lt8-clause-due : goal.returns-then-n-lt8-clause-due
returns-then-n-lt8-clause-due c =
    let n = c.some_entry-n.result in
    let long : length c.args.list.values ≡ 8 = search rules in
    let z : ℤ = slice_index_or c.args.list.values n (pos 0) in
    let fits : FitsSigned w64 z = search in
    let same = to_z-of_z w64 z fits in
    entry-due c.args.layout.now c.args.taken c.args.fold c.args.place c.args.number c.args.list long c.args.from n
    c.some_entry-n.ensures.same c.if-n-lt8.true (to_z w64 (of_z w64 z)) (sym same)
    (λ none. c.some_entry-n.ensures.some c.if-n-lt8.true (sym same ∙ none)) c.entry_counter.result
    c.entry_counter.ensures

pub returns-clause-due : goal.returns-clause-due
returns-clause-due c =
    let shape = c.args.layout.now in
    let long : length c.args.list.values ≡ 8 = search rules in
    some_due-along (fold_at shape c.args.fold (Groups c.args.taken c.args.place c.args.number))
    (fold_at shape c.args.fold (Entries c.args.taken c.args.place c.args.number c.args.list c.args.from))
    (list-over shape c.args.taken c.args.fold c.args.place c.args.number c.args.list long c.args.from
    c.some_entry-n.result c.some_entry-n.ensures.same c.if-n-lt8.false)
    c.due_group.result c.due_group.ensures.due

pub returns-clause-ended : goal.returns-clause-ended
returns-clause-ended c = λ none.
    let shape = c.args.layout.now in
    let long : length c.args.list.values ≡ 8 = search rules in
    ended-along (fold_at shape c.args.fold (Groups c.args.taken c.args.place c.args.number))
    (fold_at shape c.args.fold (Entries c.args.taken c.args.place c.args.number c.args.list c.args.from)) (tt {0})
    (list-over shape c.args.taken c.args.fold c.args.place c.args.number c.args.list long c.args.from
    c.some_entry-n.result c.some_entry-n.ensures.same c.if-n-lt8.false)
    (c.due_group.ensures.ended none)
