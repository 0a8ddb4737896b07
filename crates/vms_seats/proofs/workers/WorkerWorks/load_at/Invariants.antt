use Rattle.std.specs.Prelude.{Some}
use Rattle.vms_seats.proofs.workers.WorkerWorks.load_at.Given as goal

abbrev pub ghosts-load_as : goal.ghosts-load_as
ghosts-load_as g a = record { step = λ n. Some (g.L.Ledger.told a.plan.now n) }
