-- The amount of one counter alone is written.
use Rattle.std.proofs.Common.{pos, neg_ℤ, arith}
use Rattle.std.proofs.lemmas.Int.{ints}
use Rattle.vms_cells.specs.Cells.{at}
use Rattle.vms_page_passes.proofs.AmountSteps.{Carries-counter}
use Rattle.vms_page_passes.proofs.amounts.Amounts.drop_counter.Goals as goal

pub returns : goal.returns
returns c = rw c.set.ensures (Carries-counter c.args.layout.now c.args.slot c.requires.slot c.args.self.now
    c.requires.shaped c.args.counter.number c.requires.counter
    (neg_ℤ (at c.args.self.now.by_counter c.args.slot c.args.counter.number (pos 0))) (pos 0) (omega (arith, ints)))
