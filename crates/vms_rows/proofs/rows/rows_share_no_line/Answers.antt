-- The goal was that words of two rows stand in two lines.
use Rattle.vms_rows.proofs.RowLines.{rows-apart}
use Rattle.vms_rows.proofs.rows.rows_share_no_line.Goals as goal

pub returns : goal.returns
returns c = rows-apart
