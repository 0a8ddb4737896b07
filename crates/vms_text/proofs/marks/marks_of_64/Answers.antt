use Rattle.std.proofs.Common.{arith}
use Rattle.vms_text.proofs.MarkedSpaces.{two_marks}
use Rattle.vms_text.proofs.marks.marks_of_64.Goals as goal

pub returns : goal.returns
returns c =
    two_marks 32 c.args.bytes.now c.marks_in_32.result c.marks_in_32-2.result (omega arith) c.requires.least
    (omega (arith, c.requires.most)) c.marks_in_32.ensures.marks c.marks_in_32-2.ensures.marks
    c.marks_in_32-2.ensures.small
