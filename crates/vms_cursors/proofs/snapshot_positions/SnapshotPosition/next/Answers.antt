use Rattle.std.proofs.Common.{sym, subst}
use Rattle.std.specs.Prelude.{IfSome}
use Rattle.vms_cursors.specs.Cursors.{GoesOn}
use Rattle.vms_cursors.specs.Snapshots.{snapshot_at}
use Rattle.vms_cursors.proofs.snapshot_positions.SnapshotPosition.next.Goals as goal

pub returns-in-Begun-clause-goes : goal.returns-in-Begun-clause-goes
returns-in-Begun-clause-goes c = subst (λ s. IfSome c.after_begun.result (λ later.
    GoesOn (snapshot_at c.args.layout.now c.args.counter s) c.args.step
    (snapshot_at c.args.layout.now c.args.counter later))) (sym c.in-Begun.is)
    (c.after_begun.ensures.goes c.args.layout.now)

pub returns-in-Looks-clause-goes : goal.returns-in-Looks-clause-goes
returns-in-Looks-clause-goes c = subst (λ s. IfSome c.after_looks.result (λ later.
    GoesOn (snapshot_at c.args.layout.now c.args.counter s) c.args.step
    (snapshot_at c.args.layout.now c.args.counter later))) (sym c.in-Looks.is)
    (c.after_looks.ensures.goes c.args.counter)
