-- A group more, and all groups of the place at the end.
use Rattle.std.proofs.Common.{◌≡◌, ℕ, ◌+◌, ◌*◌, ◌/◌, ◌^◌, ◌≤◌, sym, ap, subst, ◌∙◌, arith}
use Rattle.vms_calls.specs.Common.{IsGroup, counter_at, counter_count, group_of}
use Rattle.vms_text.proofs.Common.{Begins-after, OnErr-true}
use Rattle.vms_base.proofs.Common.{group_count-most, group_count-whole}
use Rattle.vms_plain_pages.proofs.FoldedCounters.{IsSmallState-folded}
use Rattle.vms_plain_pages.proofs.FoldedPlaces.{first_group, group-within}
use Rattle.vms_plain_pages.proofs.SmallSums.{AreSums-more}
use Rattle.vms_call_lines.specs.Folds.{WritesGroups}
use Rattle.vms_call_lines.proofs.FoldLines.{writes-groups, writes-no_group}
use Rattle.vms_call_lines.proofs.folds.write_groups.Goals as goal

pub loop-n-init : goal.loop-n-init
loop-n-init c = (
  writes-no_group c.args.layout.now c.args.cpu c.args.caller (c.positions-each.result / 8 * c.args.place.number)
      c.args.pages.now c.args.sums.now c.args.out.now.items c.requires.room.shaped,
  λ most small. AreSums-more most (most + 0) c.args.sums.now (omega arith) small,
)

pub overflow_add-first : goal.overflow_add-first
overflow_add-first c =
    let within : IsGroup c.args.layout.now (c.positions-each.result / 8 * c.args.place.number + c.loop-n.n) =
    subst (λ (w : ℕ). IsGroup c.args.layout.now (w / 8 * c.args.place.number + c.loop-n.n))
    (sym c.positions-each.ensures.value)
    (group-within c.args.layout.now c.positions-each.ensures.is_layout c.args.place.number c.loop-n.n c.requires.place
    (omega (arith, c.positions-each.ensures.value, c.loop-n-test.true))) in
    omega (arith, within, group_count-most c.args.layout.now c.positions-each.ensures.is_layout)

pub write_group-requires-clause-room : goal.write_group-requires-clause-room
write_group-requires-clause-room c =
    IsSmallState-folded c.args.layout.now c.args.cpu.number c.requires.cpu (2 ^ 61 + 125)
    (8 * (c.positions-each.result / 8 * c.args.place.number)) (8 * c.loop-n.n) c.args.pages.now c.loop-n.pages
    c.args.sums.now c.loop-n.sums c.requires.room c.loop-n.invariant.0.folds.counters

pub loop-n-preserved : goal.loop-n-preserved
loop-n-preserved c =
    let first = c.positions-each.result / 8 * c.args.place.number in
    let within : IsGroup c.args.layout.now (first + c.loop-n.n) =
    subst (λ (w : ℕ). IsGroup c.args.layout.now (w / 8 * c.args.place.number + c.loop-n.n))
    (sym c.positions-each.ensures.value)
    (group-within c.args.layout.now c.positions-each.ensures.is_layout c.args.place.number c.loop-n.n c.requires.place
    (omega (arith, c.positions-each.ensures.value, c.loop-n-test.true))) in
    let whole : 8 * first + (8 * c.loop-n.n + 8 * 1) ≤ counter_count c.args.layout.now =
    omega (arith, within, group_count-whole c.args.layout.now c.positions-each.ensures.is_layout) in
    let group = c.in_ok-write_group.ensures in (
      writes-groups c.args.layout.now c.args.cpu c.args.caller c.requires.cpu first c.loop-n.n 1 whole c.args.pages.now
          c.loop-n.pages c.write_group.new.pages c.args.sums.now c.loop-n.sums c.write_group.new.sums
          c.args.out.now.items c.loop-n.out.items c.write_group.new.out.items c.loop-n.invariant.0 group.writes,
      λ most small. AreSums-more (most + 1024 * c.loop-n.n + 1024) (most + 1024 * (c.loop-n.n + 1))
          c.write_group.new.sums (omega arith)
          (group.sums (most + 1024 * c.loop-n.n) (c.loop-n.invariant.1 most small)),
    )

pub returns-clause-writes : goal.returns-clause-writes
returns-clause-writes c =
    let shape = c.args.layout.now in
    let g = c.args.place.number in
    let s = c.args.pages.now in
    let first = c.positions-each.result / 8 * g in
    let all : c.loop-n.n ≡ shape.positions / 8 =
    omega (arith, c.loop-n-test.false, c.loop-n.auto.«n-end», c.positions-each.ensures.value) in
    let at : first ≡ group_of (counter_at shape g 0) =
    ap (λ (w : ℕ). w / 8 * g) c.positions-each.ensures.value
    ∙ sym (first_group shape c.positions-each.ensures.is_layout g) in
    subst (λ (j : ℕ). WritesGroups shape c.args.cpu j (shape.positions / 8) c.args.caller s c.loop-n.pages
    c.args.sums.now c.loop-n.sums c.args.out.now.items c.loop-n.out.items) at
    (subst (λ (n : ℕ). WritesGroups shape c.args.cpu first n c.args.caller s c.loop-n.pages c.args.sums.now
    c.loop-n.sums c.args.out.now.items c.loop-n.out.items) all c.loop-n.invariant.0)

pub returns-in_err-write_group-clause-err : goal.returns-in_err-write_group-clause-err
returns-in_err-write_group-clause-err c =
    OnErr-true c.from_residual.result _
    (Begins-after _ _ _ _ c.loop-n.invariant.0.lines c.in_err-write_group.ensures.err)
