-- The lanes of the CPUs so far have begun.
use Rattle.vms_group_phase.specs.Common.{HaveBegunLanes}
use Rattle.vms_group_phase.proofs.jobs.begin_lanes.Given as goal

abbrev pub invariant-loop-number : goal.invariant-loop-number
invariant-loop-number l = HaveBegunLanes l.table l.items l.number l.main l.jobs.items
