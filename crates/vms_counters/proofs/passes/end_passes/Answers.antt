-- The volumes that are given back are those of the passes.
use Rattle.vms_counters.specs.Handles.{volumes_in}
use Rattle.vms_counters.proofs.ThreeTables.{same-volumes}
use Rattle.vms_counters.proofs.passes.end_passes.Goals as goal

pub returns-clause-volumes : goal.returns-clause-volumes
returns-clause-volumes c =
    same-volumes
    (record { page = c.join_cpu.result; event = c.join_cpu-2.result; pcpu = c.join_cpu-3.result })
    (volumes_in c.args.passes) c.join_cpu.ensures.volume c.join_cpu-2.ensures.volume c.join_cpu-3.ensures.volume
