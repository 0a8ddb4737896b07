-- The volumes before k stand in the list, and all others as they stood.
use Rattle.vms_phase.proofs.KeptVolumes.{HasRow}
use Rattle.vms_phase.proofs.volumes.keep_row.Given as goal

abbrev pub invariant-loop-k : goal.invariant-loop-k
invariant-loop-k l = HasRow l.width l.fn.cpu.number l.k l.own l.volumes l.initial.volumes
