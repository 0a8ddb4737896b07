-- The volumes hold what the lines so far spend.
use Rattle.std.proofs.Common.{take}
use Rattle.vms_group_phase.proofs.GrownVolumes.{HaveGrown}
use Rattle.vms_group_phase.proofs.volumes.grow_volumes.Given as goal

abbrev pub invariant-loop-item : goal.invariant-loop-item
invariant-loop-item l = HaveGrown l.tree l.fn.volumes (take l.item-index l.items) l.volumes
