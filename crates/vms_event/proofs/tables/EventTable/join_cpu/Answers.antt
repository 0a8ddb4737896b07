-- The goal was that the pass may end.
use Rattle.vms_event.proofs.KeptControl.{owner-carries_nothing}
use Rattle.vms_event.proofs.tables.EventTable.join_cpu.Goals as goal

pub end-requires-clause-ends : goal.end-requires-clause-ends
end-requires-clause-ends c =
    owner-carries_nothing c.pass.inside.worker c.pass.inside.cpu c.pass.inside.volume c.pass.invariant
