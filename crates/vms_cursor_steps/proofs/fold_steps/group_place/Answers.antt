-- The group is of the same place, or the first of the next.
use Rattle.std.proofs.Common.{◌≡◌, ◌∙◌, ◌<◌, ◌≤◌, ◌*◌, ◌/◌, ◌+◌, [], refl, sym, ap, arith}
use Rattle.vms_calls.specs.Common.{place_count}
use Rattle.vms_cursors.specs.Folds.{fold_at, place_end}
use Rattle.vms_cursors.specs.declared.fold_positions.FoldPosition.TheVariants.{Groups}
use Rattle.vms_cursors.proofs.FoldGoes.{first-is_left, groups-none, place-unknown}
use Rattle.vms_cursors.proofs.Goes.{same-runs}
use Rattle.vms_cursors.proofs.LayoutGroups.{eight-each, few-places}
use Rattle.vms_cursor_steps.proofs.fold_steps.group_place.Goals as goal

pub overflow_add-next : goal.overflow_add-next
overflow_add-next c =
    omega (arith, few-places c.args.layout.now c.requires.layout c.args.place c.requires.within.0)

pub returns-then-taken-groups_through : goal.returns-then-taken-groups_through
returns-then-taken-groups_through c =
    let here = fold_at c.args.layout.now c.args.fold (Groups c.args.taken.now c.args.place c.args.number) in
    record {
      same = same-runs here here refl;
      within = c.requires.within.0;
      least = c.requires.within.1;
      more = omega (arith, c.if-taken-groups_through.true, c.groups_through.ensures);
    }

pub returns-in-None : goal.returns-in-None
returns-in-None c =
    let shape = c.args.layout.now in
    let fold = c.args.fold in
    let taken = c.args.taken.now in
    let g = c.args.place in
    let number = c.args.number in
    let most : shape.positions / 8 * (g + 1) ≤ taken.groups =
    omega (arith, c.if-taken-groups_through.false, c.groups_through.ensures) in
    let groups : taken.groups ≡ shape.positions / 8 * (g + 1) = omega (arith, most, c.requires.within.2) in
    let less : g + 1 < place_count shape = omega (arith, c.if-next-places.false, c.places.ensures.value) in
    record {
      same = same-runs (fold_at shape fold (Groups taken g number)) (fold_at shape fold (Groups taken (g + 1) number))
          (groups-none shape taken fold g number most
          ∙ ap (λ x. place_end shape taken fold g x []) c.in-None.is
          ∙ place-unknown shape taken fold (g + 1) less groups (eight-each shape c.requires.layout)
          (sym c.is_acknowledged.ensures ∙ c.if-is_acknowledged.false)
          ∙ ap (λ x. fold_at shape fold (Groups taken (g + 1) x)) (sym c.in-None.is));
      within = less;
      least = most;
      more = first-is_left shape c.requires.layout taken (g + 1) groups;
    }
