-- The take of the next group.
use Rattle.std.proofs.Common.{rules, ◌≡◌, ◌∙◌, sym, length, arith, add-one}
use Rattle.vms_cursors.proofs.FoldGoes.{take-goes, take-stops}
use Rattle.vms_cursors.proofs.LayoutGroups.{few-groups}
use Rattle.vms_cursors.proofs.fold_positions.after_take.Goals as goal

pub add-requires : goal.add-requires
add-requires c = omega (
  arith,
  c.requires.more,
  few-groups c.args.layout.now c.requires.layout c.args.place c.requires.within.0,
)

pub returns-in-Some-clause-goes : goal.returns-in-Some-clause-goes
returns-in-Some-clause-goes c =
    let long : length c.in-Some.list.values ≡ 8 = search rules in
    take-goes c.args.layout.now c.args.taken c.args.fold c.args.place c.args.number c.requires.more c.args.step
    c.add.result c.in-Some.list (c.add.ensures.groups ∙ add-one c.args.taken.groups) c.add.ensures.totals long
    (sym c.in-Some.ensures)

pub returns-in-None-clause-stops : goal.returns-in-None-clause-stops
returns-in-None-clause-stops c = λ none.
    take-stops c.args.layout.now c.args.taken c.args.fold c.args.place c.args.number c.requires.more c.args.step
    (sym c.in-None.ensures)
