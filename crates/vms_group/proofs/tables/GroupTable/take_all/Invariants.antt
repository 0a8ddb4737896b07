use Rattle.vms_group.specs.Common.{TookFrom}
use Rattle.vms_group.proofs.tables.GroupTable.take_all.Given as goal

abbrev pub invariant-loop-number : goal.invariant-loop-number
invariant-loop-number l = TookFrom l.group l.worker l.fn.worker l.number l.sum
