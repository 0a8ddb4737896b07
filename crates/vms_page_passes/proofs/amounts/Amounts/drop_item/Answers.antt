-- The amount of one item alone is written.
use Rattle.std.proofs.Common.{pos, neg_ℤ, arith}
use Rattle.std.proofs.lemmas.Int.{ints}
use Rattle.vms_cells.specs.Cells.{at}
use Rattle.vms_page_passes.proofs.AmountSteps.{Carries-item}
use Rattle.vms_page_passes.proofs.amounts.Amounts.drop_item.Goals as goal

pub returns : goal.returns
returns c = rw c.set.ensures (Carries-item c.args.layout.now c.args.slot c.requires.slot c.args.self.now
    c.requires.shaped c.args.item.number c.requires.item
    (neg_ℤ (at c.args.self.now.by_item c.args.slot c.args.item.number (pos 0))) (pos 0) (omega (arith, ints)))
