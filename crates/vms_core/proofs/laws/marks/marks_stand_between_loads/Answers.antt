use Rattle.vms_core.proofs.MarkNumbers.{marks-stand_between, numbers-tell_marks}
use Rattle.vms_core.proofs.laws.marks.marks_stand_between_loads.Goals as goal

pub returns : goal.returns
returns c = record { stand = marks-stand_between; same = numbers-tell_marks }
