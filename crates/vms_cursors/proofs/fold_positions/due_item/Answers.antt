-- The addition to the item is due.
use Rattle.std.proofs.Common.{FitsSigned, ℤ, ◌<◌, sym, to_z, of_z, w64, arith, ◌∙◌}
use Rattle.std.proofs.lemmas.Int.{to_z-of_z}
use Rattle.vms_calls.specs.Common.{item_count}
use Rattle.vms_cursors.specs.Totals.{total_at}
use Rattle.vms_cursors.proofs.FoldGoes.{item-due}
use Rattle.vms_cursors.proofs.fold_positions.due_item.Goals as goal

pub returns-then-i-items-clause-due : goal.returns-then-i-items-clause-due
returns-then-i-items-clause-due c =
    let i = c.some_item-i.result in
    let less : i < item_count c.args.layout.now = omega (arith, c.if-i-items.true, c.items.ensures.value) in
    let total : ℤ = total_at c.args.taken.totals i in
    let fits : FitsSigned w64 total = search in
    let same = to_z-of_z w64 total fits in
    item-due c.args.layout.now c.args.taken c.args.from i c.some_item-i.ensures.same less (to_z w64 (of_z w64 total))
    (sym same) (λ none. c.some_item-i.ensures.some less (sym same ∙ none))
