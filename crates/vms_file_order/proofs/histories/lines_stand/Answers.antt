-- A line's steps are its pass's own.
use Rattle.vms_file_order.proofs.FollowedLines.{Follow-line, GoesOnWithLine-none, StandsOpen-line}
use Rattle.vms_file_order.proofs.histories.lines_stand.Goals as goal

pub returns : goal.returns
returns g c = record {
  stands = λ setting. StandsOpen-line g.T.LineTable.machine g.T.LineTable.passes (g.T.LineTable.makes setting)
      g.T.LineTable.IsAlone;
  follow = λ setting. Follow-line g.T.LineTable.machine g.T.LineTable.passes (g.T.LineTable.makes setting)
      g.T.LineTable.IsAlone;
  nothing = λ setting. GoesOnWithLine-none g.T.LineTable.machine g.T.LineTable.passes (g.T.LineTable.makes setting)
      g.T.LineTable.IsAlone;
}
