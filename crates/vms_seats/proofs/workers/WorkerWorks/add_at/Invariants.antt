use Rattle.std.specs.Prelude.{Some}
use Rattle.vms_seats.proofs.workers.WorkerWorks.add_at.Given as goal

abbrev pub ghosts-add_as : goal.ghosts-add_as
ghosts-add_as g a = record { step = λ n. Some (g.L.Ledger.told a.plan.now n) }
