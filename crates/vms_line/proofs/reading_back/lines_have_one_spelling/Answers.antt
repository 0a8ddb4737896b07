use Rattle.vms_line.proofs.FormsSame.{LinesHaveOneSpelling-holds}
use Rattle.vms_line.proofs.reading_back.lines_have_one_spelling.Goals as goal

pub returns : goal.returns
returns c = LinesHaveOneSpelling-holds
