use Rattle.std.specs.Prelude.{Some}
use Rattle.vms_seats.proofs.workers.WorkerWorks.swap_at.Given as goal

abbrev pub ghosts-swap_as : goal.ghosts-swap_as
ghosts-swap_as g a = record { step = λ n. Some (g.L.Ledger.told a.plan.now n) }
