-- The goals were that words of CPUs stand in lines of their own.
use Rattle.vms_group.proofs.RowLines.{cpus-apart, values-apart, children-apart}
use Rattle.vms_group.proofs.laws.cpus_share_no_line.Goals as goal

pub returns-clause-cpus : goal.returns-clause-cpus
returns-clause-cpus c = cpus-apart

pub returns-clause-values : goal.returns-clause-values
returns-clause-values c = values-apart

pub returns-clause-children : goal.returns-clause-children
returns-clause-children c = children-apart
