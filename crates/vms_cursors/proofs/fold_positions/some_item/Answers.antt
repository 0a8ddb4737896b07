-- An item for which nothing was taken gets no addition.
use Rattle.std.proofs.Common.{◌≡◌, ◌<◌, pos, arith, ◌∙◌}
use Rattle.std.proofs.lemmas.Int.{ints}
use Rattle.vms_calls.specs.Common.{item_count}
use Rattle.vms_cursors.specs.Totals.{total_at}
use Rattle.vms_cursors.proofs.FoldGoes.{item-zero}
use Rattle.vms_cursors.proofs.fold_positions.some_item.Goals as goal

pub loop-i-preserved : goal.loop-i-preserved
loop-i-preserved c =
    let less : c.loop-i.i < item_count c.args.layout.now =
    omega (arith, c.loop-i-test.true, c.items-i-end.ensures.value) in
    let none : total_at c.args.taken.now.totals c.loop-i.i ≡ pos 0 = omega (arith, ints, c.if-taken-i-ne0.false) in
    c.loop-i.invariant ∙ item-zero c.args.layout.now c.args.taken.now c.loop-i.i less none
