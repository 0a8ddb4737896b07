use Rattle.std.proofs.Common.{sym, subst}
use Rattle.std.specs.Prelude.{IfSome}
use Rattle.vms_cursors.specs.Cursors.{HasEnded, IsDue}
use Rattle.vms_cursors.specs.Snapshots.{snapshot_answer, snapshot_at}
use Rattle.vms_cursors.proofs.snapshot_positions.SnapshotPosition.due.Goals as goal

pub returns-in-Looks-clause-due : goal.returns-in-Looks-clause-due
returns-in-Looks-clause-due c = subst (λ s. IfSome c.due_look.result (λ due.
    IsDue (snapshot_at c.args.layout.now c.args.counter s) due)) (sym c.in-Looks.is)
    (c.due_look.ensures.due c.args.counter)

pub returns-in-Looks-clause-ended : goal.returns-in-Looks-clause-ended
returns-in-Looks-clause-ended c = λ none. subst (λ s.
    HasEnded (snapshot_at c.args.layout.now c.args.counter s) (snapshot_answer s)) (sym c.in-Looks.is)
    (c.due_look.ensures.ended c.args.counter none)
