use Rattle.std.proofs.Common.{arith}
use Rattle.vms_script.proofs.volumes.VolumeTable.with_size.Goals as goal

pub overflow_mul-index : goal.overflow_mul-index
overflow_mul-index c = omega (arith, c.requires.within, c.requires.few)

pub overflow_add-index : goal.overflow_add-index
overflow_add-index c = omega (arith, c.requires.within, c.requires.few)
