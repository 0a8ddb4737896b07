use Rattle.std.proofs.Common.{sym}
use Rattle.vms_cursors.proofs.SnapshotGoes.{value-stops}
use Rattle.vms_cursors.proofs.snapshot_positions.after_begun.Goals as goal

pub returns-in-None-clause-stops : goal.returns-in-None-clause-stops
returns-in-None-clause-stops c = λ shape none. value-stops c.args.counter c.args.step shape (sym c.in-None.ensures)
