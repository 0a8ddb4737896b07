-- A group more, and all groups of the place at the end.
use Rattle.std.proofs.Common.{◌≡◌, ℕ, ◌+◌, ◌*◌, ◌/◌, [], ◌∷◌, ◌++◌, refl, sym, ap, ◌∙◌, subst, arith, length-append}
use Rattle.vms_calls.specs.Common.{Shape, IsLayout, IsGroup, counter_at, group_of}
use Rattle.vms_base.proofs.Common.{group_count-most}
use Rattle.vms_count.specs.Common.{FoldsGroups}
use Rattle.vms_count.proofs.TakenGroups.{AreSums-more, FoldsGroups-none, FoldsGroups-both}
use Rattle.vms_count.proofs.VisitedPlaces.{first_group, group-within, groups-few}
use Rattle.vms_count.proofs.folding.fold_groups.Goals as goal

pub loop-n-init : goal.loop-n-init
loop-n-init g c = (
  (
    [],
    refl,
    FoldsGroups-none c.args.table.now.facts.layout c.args.cpu (c.positions-each.result / 8 * c.args.place.number)
        (g.P.Caller.pass c.args.pass.now) c.args.sums.now c.is_live.ensures c.requires.none,
  ),
  λ most small. AreSums-more most (most + 0) c.args.sums.now (omega arith) small,
  refl,
)

pub overflow_mul-first : goal.overflow_mul-first
overflow_mul-first g c =
    let shape = c.args.table.now.facts.layout in
    let layout : IsLayout shape = subst IsLayout c.layout.ensures c.positions-each.ensures.is_layout in
    let positions : c.positions-each.result ≡ shape.positions =
    c.positions-each.ensures.value ∙ ap (λ (s : Shape). s.positions) c.layout.ensures in
    let first : c.positions-each.result / 8 * c.args.place.number ≡ group_of (counter_at shape c.args.place.number 0) =
    ap (λ w. w / 8 * c.args.place.number) positions ∙ sym (first_group shape layout c.args.place.number) in
    omega (arith, first, groups-few shape layout c.args.place.number c.requires.place)

pub overflow_add-first : goal.overflow_add-first
overflow_add-first g c =
    let shape = c.args.table.now.facts.layout in
    let layout : IsLayout shape = subst IsLayout c.layout.ensures c.positions-each.ensures.is_layout in
    let positions : c.positions-each.result ≡ shape.positions =
    c.positions-each.ensures.value ∙ ap (λ (s : Shape). s.positions) c.layout.ensures in
    let within : IsGroup shape (c.positions-each.result / 8 * c.args.place.number + c.loop-n.n) =
    subst (λ (w : ℕ). IsGroup shape (w / 8 * c.args.place.number + c.loop-n.n)) (sym positions)
    (group-within shape layout c.args.place.number c.loop-n.n c.requires.place
    (omega (arith, positions, c.loop-n-test.true))) in
    omega (arith, within, group_count-most shape layout)

pub loop-n-preserved : goal.loop-n-preserved
loop-n-preserved g c =
    let shape = c.args.table.now.facts.layout in
    let first = c.positions-each.result / 8 * c.args.place.number in
    let so_far = c.loop-n.invariant.0 in
    let more = c.fold_group.ensures.folds in
    let old = g.P.Caller.pass c.args.pass.now in
    let now = g.P.Caller.pass c.loop-n.pass in
    let new = g.P.Caller.pass c.fold_group.new.pass in (
      (
        so_far.0 ++ more.0 ∷ [],
        length-append so_far.0 (more.0 ∷ []) ∙ omega (arith, so_far.1),
        FoldsGroups-both shape c.args.cpu first so_far.0 (more.0 ∷ []) new now old c.args.sums.now c.loop-n.sums
            c.fold_group.new.sums so_far.2
            (subst (λ m. FoldsGroups shape c.args.cpu (first + m) (more.0 ∷ []) new now c.loop-n.sums
            c.fold_group.new.sums) (sym so_far.1) more.1),
      ),
      λ most small. AreSums-more (most + 1024 * c.loop-n.n + 1024) (most + 1024 * (c.loop-n.n + 1))
          c.fold_group.new.sums (omega arith)
          (c.fold_group.ensures.sums (most + 1024 * c.loop-n.n) (c.loop-n.invariant.1 most small)),
      c.fold_group.ensures.volume ∙ c.loop-n.invariant.2,
    )

pub returns-clause-folds : goal.returns-clause-folds
returns-clause-folds g c =
    let shape = c.args.table.now.facts.layout in
    let layout : IsLayout shape = subst IsLayout c.layout.ensures c.positions-each.ensures.is_layout in
    let positions : c.positions-each.result ≡ shape.positions =
    c.positions-each.ensures.value ∙ ap (λ (s : Shape). s.positions) c.layout.ensures in
    let first : c.positions-each.result / 8 * c.args.place.number ≡ group_of (counter_at shape c.args.place.number 0) =
    ap (λ w. w / 8 * c.args.place.number) positions ∙ sym (first_group shape layout c.args.place.number) in
    let so_far = c.loop-n.invariant.0 in (
      so_far.0,
      so_far.1 ∙ omega (arith, c.loop-n-test.false, c.loop-n.auto.«n-end») ∙ ap (λ w. w / 8) positions,
      subst (λ m. FoldsGroups shape c.args.cpu m so_far.0 (g.P.Caller.pass c.loop-n.pass)
          (g.P.Caller.pass c.args.pass.now) c.args.sums.now c.loop-n.sums) first so_far.2,
    )
