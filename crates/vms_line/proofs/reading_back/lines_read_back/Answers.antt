use Rattle.vms_line.proofs.LinesRead.{LinesReadBack-holds}
use Rattle.vms_line.proofs.reading_back.lines_read_back.Goals as goal

pub returns : goal.returns
returns c = LinesReadBack-holds
