use Rattle.std.specs.Prelude.{Some}
use Rattle.vms_seats.proofs.workers.WorkerWorks.exchange_at.Given as goal

abbrev pub ghosts-exchange_as : goal.ghosts-exchange_as
ghosts-exchange_as g a = record { step = λ n. Some (g.L.Ledger.told a.plan.now n) }
