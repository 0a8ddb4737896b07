use Rattle.vms_text.proofs.TextLaws.{lines_of-append}
use Rattle.vms_text.proofs.cutting.lines_append.Goals as goal

pub returns : goal.returns
returns c = lines_of-append
