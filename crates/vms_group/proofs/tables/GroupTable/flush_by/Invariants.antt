use Rattle.std.proofs.Common.{◌-◌}
use Rattle.vms_group_core.specs.Common.{group_count}
use Rattle.vms_group.specs.Common.{FlushedFrom}
use Rattle.vms_group.proofs.tables.GroupTable.flush_by.Given as goal

abbrev pub invariant-loop-done : goal.invariant-loop-done
invariant-loop-done l =
    FlushedFrom l.self.facts.tree l.group l.worker l.fn.worker (group_count l.self.facts.tree - l.done)
