use Rattle.vms_text.proofs.TextLaws.{lines_of-first, lines_of-last}
use Rattle.vms_text.proofs.cutting.lines_begin.Goals as goal

pub returns : goal.returns
returns c = record { first = lines_of-first; last = lines_of-last }
