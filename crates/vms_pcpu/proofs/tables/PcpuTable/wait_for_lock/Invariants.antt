use Rattle.vms_pcpu.proofs.LockTries.{Tried}
use Rattle.vms_pcpu.proofs.tables.PcpuTable.wait_for_lock.Given as goal

abbrev pub invariant-loop : goal.invariant-loop
invariant-loop g l =
    (goal.iterator-loop g).can_next l.iterator' × (goal.iterator-loop g).is_finite l.iterator'
    × Tried l.counter l.worker l.fn.worker
