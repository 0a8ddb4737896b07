use Rattle.std.proofs.Common.{take, arith}
use Rattle.std.proofs.lemmas.List.{length-take-le}
use Rattle.vms_text.proofs.MarkedSpaces.{vector_marks-are, vector_marks-lt}
use Rattle.vms_text.proofs.marks.marks_in_16.Goals as goal

pub returns-clause-marks : goal.returns-clause-marks
returns-clause-marks c =
    vector_marks-are 16 (take 16 c.args.bytes.now) (length-take-le 16 c.args.bytes.now c.requires) (omega arith)

pub returns-clause-small : goal.returns-clause-small
returns-clause-small c =
    vector_marks-lt 16 (take 16 c.args.bytes.now) (length-take-le 16 c.args.bytes.now c.requires) (omega arith)
