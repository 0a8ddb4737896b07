-- The lines of the groups so far.
use Rattle.std.proofs.Common.{◌≡◌, ◌++◌, take}
use Rattle.vms_group_core.specs.Common.{as_is, standing}
use Rattle.vms_group_report.specs.Common.{group_lines}
use Rattle.vms_group_report.proofs.reports.write_group_report.Given as goal

abbrev pub invariant-loop-number : goal.invariant-loop-number
invariant-loop-number l = l.out.items ≡ l.initial.out.items
    ++ group_lines (take l.number l.names) l.tree l.words (standing as_is l.tree l.words)
