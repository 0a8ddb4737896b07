use Rattle.vms_pcpu.proofs.FoldedCounters.{FoldsBelow}
use Rattle.vms_pcpu.proofs.tables.PcpuTable.fold_dead.Given as goal

abbrev pub invariant-loop-number : goal.invariant-loop-number
invariant-loop-number g l = FoldsBelow l.dead l.pass-inside.worker l.initial.pass-inside.worker l.number
