-- One number after another becomes 0.
use Rattle.std.proofs.Common.{arith, refl, ◌≡◌, ◌+◌, suc, ◌∙◌, length-set}
use Rattle.vms_core.specs.Cells.{zeroed}
use Rattle.vms_page_words.proofs.steps.zero_eight.Goals as goal

pub loop-n-init : goal.loop-n-init
unfolding zeroed
loop-n-init c = record { same_length = refl; zeros = refl }

pub loop-n-preserved : goal.loop-n-preserved
unfolding zeroed
loop-n-preserved c =
    let next : c.loop-n.n + 1 ≡ suc c.loop-n.n = omega arith in
    record {
      same_length = rw c.set.ensures (length-set c.loop-n.numbers _ _ ∙ c.loop-n.invariant.same_length);
      zeros = rw (next, c.set.ensures, c.loop-n.invariant.zeros) refl;
    }
