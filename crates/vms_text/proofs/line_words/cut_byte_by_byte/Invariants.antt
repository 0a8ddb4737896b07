use Rattle.std.proofs.Common.{map}
use Rattle.vms_text.proofs.Parts.{IsParted}
use Rattle.vms_text.proofs.line_words.cut_byte_by_byte.Given as goal

abbrev pub invariant-loop-at : goal.invariant-loop-at
invariant-loop-at l = IsParted l.line (map (λ part. part.now) l.parts.items) l.begin l.at
