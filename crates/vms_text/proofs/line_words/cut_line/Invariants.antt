use Rattle.std.proofs.Common.{map}
use Rattle.vms_text.proofs.Pieces.{IsCut}
use Rattle.vms_text.proofs.line_words.cut_line.Given as goal

abbrev pub invariant-loop-at : goal.invariant-loop-at
invariant-loop-at l = IsCut l.line (map (λ word. word.now) l.words.items) l.clean l.begin l.at
