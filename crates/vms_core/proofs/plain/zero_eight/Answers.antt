use Rattle.std.proofs.Common.{arith, refl, ap, ◌≡◌, ◌+◌, suc, ◌∙◌, length}
use Rattle.vms_core.specs.Cells.{zeroed}
use Rattle.vms_core.proofs.CellLemmas.{length-zeroed}
use Rattle.vms_core.proofs.plain.zero_eight.Goals as goal

pub set-requires : goal.set-requires
set-requires c =
    let kept : length c.loop-n.numbers ≡ length c.args.numbers.now =
    ap length c.loop-n.invariant ∙ length-zeroed c.args.numbers.now c.args.start c.loop-n.n in
    omega arith

pub loop-n-init : goal.loop-n-init
unfolding zeroed
loop-n-init c = refl

pub loop-n-preserved : goal.loop-n-preserved
unfolding zeroed
loop-n-preserved c =
    let next : c.loop-n.n + 1 ≡ suc c.loop-n.n = omega arith in
    rw (next, c.set.ensures, c.loop-n.invariant) refl
