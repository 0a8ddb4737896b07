use Rattle.vms_core.proofs.MarkNumbers.{numbers_extend, marks_extend}
use Rattle.vms_core.proofs.laws.marks.mark_numbers_grow.Goals as goal

pub returns : goal.returns
returns c = record { grow = numbers_extend; stand = marks_extend }
