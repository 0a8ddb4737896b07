-- The goal was that the pass may end.
use Rattle.vms_group.proofs.tables.GroupTable.join_cpu.Goals as goal

pub end-requires-clause-ends : goal.end-requires-clause-ends
end-requires-clause-ends c = c.pass.invariant.idle
