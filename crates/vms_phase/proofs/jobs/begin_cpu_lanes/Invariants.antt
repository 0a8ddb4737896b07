-- The lanes of the CPUs so far have begun.
use Rattle.vms_tables.specs.Common.{mains_of}
use Rattle.vms_world.specs.Common.{lanes_below}
use Rattle.vms_phase.specs.Common.{HaveBegunJobs}
use Rattle.vms_phase.proofs.jobs.begin_cpu_lanes.Given as goal

abbrev pub invariant-loop-number : goal.invariant-loop-number
invariant-loop-number l =
    HaveBegunJobs l.plan.header.now l.plan.tables.now l.plan.world.now l.plan.lines.now
    (lanes_below l.number l.plan.lines.now) (mains_of l.mains) l.jobs.items
