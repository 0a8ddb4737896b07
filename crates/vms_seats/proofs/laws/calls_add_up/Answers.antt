-- The goal was that steps of calls add up.
use Rattle.vms_seats.proofs.MadeCalls.{calls-none, calls-next, calls-both, calls-live}
use Rattle.vms_seats.proofs.laws.calls_add_up.Goals as goal

pub returns : goal.returns
returns g c = record {
  none = calls-none g.L.Ledger.machine;
  next = calls-next g.L.Ledger.machine;
  both = calls-both g.L.Ledger.machine;
  live = calls-live g.L.Ledger.machine;
}
