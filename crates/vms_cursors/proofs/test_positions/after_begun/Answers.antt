use Rattle.std.proofs.Common.{sym}
use Rattle.vms_cursors.proofs.TestGoes.{first-goes, first-stops}
use Rattle.vms_cursors.proofs.test_positions.after_begun.Goals as goal

pub returns-in-Some-clause-goes : goal.returns-in-Some-clause-goes
returns-in-Some-clause-goes c = λ header mark most.
    first-goes header c.args.zone mark most c.args.step c.in-Some.first (sym c.in-Some.ensures)

pub returns-in-None-clause-stops : goal.returns-in-None-clause-stops
returns-in-None-clause-stops c = λ header mark most none.
    first-stops header c.args.zone mark most c.args.step (sym c.in-None.ensures)
