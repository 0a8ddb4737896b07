-- A counter more adds its base to its item.
use Rattle.std.proofs.Common.{◌≡◌, ◌≤◌, ◌^◌, w64, ℤ, pos, unsigned_abs, to_z, of_z, FitsSigned, sym, ap, ◌∙◌, arith}
use Rattle.std.proofs.Common.{nat_eq, if◌then◌else◌}
use Rattle.std.proofs.lemmas.Int.{ints, to_z-of_z}
use Rattle.vms_base.proofs.Common.{counter_count-most}
use Rattle.vms_world.specs.Common.{counter_count, item_count, item_of, sum_below, base_of, base_of_item}
use Rattle.vms_world.proofs.Common.{is_listed, base_of-most}
use Rattle.vms_hotplug.proofs.ItemSums.{HasBases-more, more_small}
use Rattle.vms_hotplug.proofs.summing.systems.Goals as goal

same_word : (z base : ℤ) → base ≡ z → unsigned_abs base ≤ 2 ^ 48 → to_z w64 (of_z w64 z) ≡ base
same_word z base is small =
    let fits : FitsSigned w64 z = omega (arith, ints) in to_z-of_z w64 z fits ∙ sym is

pub add_at-requires-clause-bound : goal.add_at-requires-clause-bound
add_at-requires-clause-bound c =
    let most = base_of-most c.args.header.now c.requires in
    let amount = same_word c.get.result (base_of c.args.header.now c.loop-number.number) (c.get.ensures
    (pos 0)) (most c.loop-number.number) in
    let small = more_small c.args.header.now c.requires.is_layout most c.loop-number.number c.loop-number.values
    c.loop-number.invariant in
    rw (c.item_of-item.ensures.value, amount) (omega (
      arith,
      small,
      c.loop-number-test.true,
      c.counters-number-end.ensures.value,
      counter_count-most c.args.header.now.layout c.requires.is_layout,
    ))

pub loop-number-preserved : goal.loop-number-preserved
loop-number-preserved c =
    let most = base_of-most c.args.header.now c.requires in
    let amount = same_word c.get.result (base_of c.args.header.now c.loop-number.number) (c.get.ensures
    (pos 0)) (most c.loop-number.number) in
    rw (c.add_at.ensures, c.item_of-item.ensures.value, amount)
    (HasBases-more c.args.header.now c.requires.is_layout most c.loop-number.number c.loop-number.values
    c.loop-number.invariant)

pub returns : goal.returns
returns c =
    let layout = c.args.header.now.layout in
    let all : c.loop-number.number ≡ counter_count layout = omega (
      arith,
      c.loop-number-test.false,
      c.loop-number.auto.«number-end»,
      c.counters-number-end.ensures.value,
    ) in
    is_listed (base_of_item c.args.header.now) (item_count layout) c.loop-number.values (pos 0)
    c.loop-number.invariant.length_is
    (λ i i_in. c.loop-number.invariant.sums i i_in
    ∙ ap (sum_below (λ k. if nat_eq (item_of layout k) i then base_of c.args.header.now k else pos 0)) all)
