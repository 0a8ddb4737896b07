-- The closing, pass by pass.
use Rattle.vms_file_order.proofs.Closings.{IsComplete-closing, state_after-closing}
use Rattle.vms_file_order.proofs.histories.closings_complete.Goals as goal

pub returns : goal.returns
returns g c = record {
  complete = IsComplete-closing g.T.LineTable.machine g.T.LineTable.quiet g.T.LineTable.passes;
  state = state_after-closing g.T.LineTable.machine g.T.LineTable.quiet g.T.LineTable.passes;
}
