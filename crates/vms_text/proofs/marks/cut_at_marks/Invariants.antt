use Rattle.std.proofs.Common.{map}
use Rattle.vms_text.proofs.MarkedSpaces.{IsMarked}
use Rattle.vms_text.proofs.marks.cut_at_marks.Given as goal

abbrev pub invariant-loop-left : goal.invariant-loop-left
invariant-loop-left l = IsMarked l.line (map (λ part. part.now) l.parts.items) l.rest l.left

abbrev pub decreases-loop-left : goal.decreases-loop-left
decreases-loop-left l = l.left
