use Rattle.std.proofs.Common.{arith}
use Rattle.vms_stream.proofs.courses.Course.read.Goals as goal

pub overflow_add-self : goal.overflow_add-self
overflow_add-self g c = omega (arith, c.requires.counted, c.requires.held, c.in_ok-count.ensures.ok.bounded)
