-- Each volume in turn is set.
use Rattle.std.proofs.Common.{◌+◌, ◌*◌, arith, subst, sym}
use Rattle.vms_phase.proofs.KeptVolumes.{HasRow, HasRow-more, HasRow-none}
use Rattle.vms_phase.proofs.volumes.keep_row.Goals as goal

pub loop-k-init : goal.loop-k-init
loop-k-init c = HasRow-none c.args.width c.args.cpu.number c.args.own.now c.args.volumes.now

pub loop-k-preserved : goal.loop-k-preserved
loop-k-preserved c =
    let width = c.args.width in
    let cpu = c.args.cpu.number in
    let k = c.loop-k.k in
    subst (λ volumes. HasRow width cpu (k + 1) c.args.own.now volumes c.args.volumes.now) (sym c.set.ensures)
    (HasRow-more width cpu c.args.own.now c.args.volumes.now k (cpu * width + k) c.get.result c.loop-k.volumes
    c.loop-k-test.true (omega arith) (omega (arith, c.requires.within, c.loop-k-test.true)) (c.get.ensures 0)
    c.loop-k.invariant)
