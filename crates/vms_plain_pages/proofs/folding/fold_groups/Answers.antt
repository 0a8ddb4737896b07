-- A group more, and all groups of the place at the end.
use Rattle.std.proofs.Common.{ℕ, ◌+◌, ◌*◌, ◌/◌, ◌^◌, ◌≤◌, sym, subst, arith}
use Rattle.vms_calls.specs.Common.{IsGroup, counter_count}
use Rattle.vms_base.proofs.Common.{group_count-most, group_count-whole}
use Rattle.vms_plain_pages.proofs.FoldedCounters.{IsSmallState-folded}
use Rattle.vms_plain_pages.proofs.FoldedGroups.{FoldsGroups-append, FoldsGroups-none}
use Rattle.vms_plain_pages.proofs.FoldedPlaces.{group-within}
use Rattle.vms_plain_pages.proofs.SmallSums.{AreSums-more}
use Rattle.vms_plain_pages.proofs.folding.fold_groups.Goals as goal

pub loop-n-init : goal.loop-n-init
loop-n-init c = (
  FoldsGroups-none c.args.layout.now c.args.cpu (c.positions-each.result / 8 * c.args.place.number) c.args.pages.now
      c.args.sums.now c.requires.room.shaped,
  λ most small. AreSums-more most (most + 0) c.args.sums.now (omega arith) small,
)

pub overflow_add-first : goal.overflow_add-first
overflow_add-first c =
    let within : IsGroup c.args.layout.now (c.positions-each.result / 8 * c.args.place.number + c.loop-n.n) =
    subst (λ (w : ℕ). IsGroup c.args.layout.now (w / 8 * c.args.place.number + c.loop-n.n))
    (sym c.positions-each.ensures.value)
    (group-within c.args.layout.now c.positions-each.ensures.is_layout c.args.place.number c.loop-n.n c.requires.place
    (omega (arith, c.positions-each.ensures.value, c.loop-n-test.true))) in
    omega (arith, within, group_count-most c.args.layout.now c.positions-each.ensures.is_layout)

pub fold_group-requires-clause-room : goal.fold_group-requires-clause-room
fold_group-requires-clause-room c =
    IsSmallState-folded c.args.layout.now c.args.cpu.number c.requires.cpu (2 ^ 61 + 125)
    (8 * (c.positions-each.result / 8 * c.args.place.number)) (8 * c.loop-n.n) c.args.pages.now c.loop-n.pages
    c.args.sums.now c.loop-n.sums c.requires.room c.loop-n.invariant.0.counters

pub loop-n-preserved : goal.loop-n-preserved
loop-n-preserved c =
    let first = c.positions-each.result / 8 * c.args.place.number in
    let within : IsGroup c.args.layout.now (first + c.loop-n.n) =
    subst (λ (w : ℕ). IsGroup c.args.layout.now (w / 8 * c.args.place.number + c.loop-n.n))
    (sym c.positions-each.ensures.value)
    (group-within c.args.layout.now c.positions-each.ensures.is_layout c.args.place.number c.loop-n.n c.requires.place
    (omega (arith, c.positions-each.ensures.value, c.loop-n-test.true))) in
    let whole : 8 * first + (8 * c.loop-n.n + 8 * 1) ≤ counter_count c.args.layout.now =
    omega (arith, within, group_count-whole c.args.layout.now c.positions-each.ensures.is_layout) in (
      FoldsGroups-append c.args.layout.now c.args.cpu c.requires.cpu first c.loop-n.n 1 whole c.args.pages.now
          c.loop-n.pages c.fold_group.new.pages c.args.sums.now c.loop-n.sums c.fold_group.new.sums
          c.loop-n.invariant.0 c.fold_group.ensures.folds,
      λ most small. AreSums-more (most + 1024 * c.loop-n.n + 1024) (most + 1024 * (c.loop-n.n + 1))
          c.fold_group.new.sums (omega arith)
          (c.fold_group.ensures.sums (most + 1024 * c.loop-n.n) (c.loop-n.invariant.1 most small)),
    )
