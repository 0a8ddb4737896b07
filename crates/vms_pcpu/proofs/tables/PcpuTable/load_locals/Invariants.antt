use Rattle.vms_pcpu.proofs.LoadedLocals.{SoFar}
use Rattle.vms_pcpu.proofs.tables.PcpuTable.load_locals.Given as goal

abbrev pub invariant-loop-number : goal.invariant-loop-number
invariant-loop-number l = SoFar l.self.facts l.counter l.worker l.fn.worker l.number l.sum
