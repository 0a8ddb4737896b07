-- The lanes and lines of a history in file order, line by line.
use Rattle.vms_file_order.proofs.FollowedLines.{HasLanes-in_order, MakesLines-in_order}
use Rattle.vms_file_order.proofs.histories.file_order_makes_lines.Goals as goal

pub returns : goal.returns
returns g c = record {
  lanes = λ setting shape items h in_order. HasLanes-in_order g.T.LineTable.passes (g.T.LineTable.makes setting)
      g.T.LineTable.IsAlone shape items h in_order;
  lines = λ setting shape items h in_order. MakesLines-in_order g.T.LineTable.passes (g.T.LineTable.makes setting)
      g.T.LineTable.IsAlone shape items h in_order;
}
