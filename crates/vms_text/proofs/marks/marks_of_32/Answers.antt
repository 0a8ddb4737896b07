use Rattle.std.proofs.Common.{arith}
use Rattle.vms_text.proofs.MarkedSpaces.{two_marks}
use Rattle.vms_text.proofs.marks.marks_of_32.Goals as goal

pub returns : goal.returns
returns c =
    two_marks 16 c.args.bytes.now c.marks_in_16.result c.marks_in_16-2.result (omega arith) c.requires.least
    (omega (arith, c.requires.most)) c.marks_in_16.ensures.marks c.marks_in_16-2.ensures.marks
    c.marks_in_16-2.ensures.small
