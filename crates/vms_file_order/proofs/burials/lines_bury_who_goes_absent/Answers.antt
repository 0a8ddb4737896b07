-- Who goes absent, line by line.
use Rattle.vms_file_order.proofs.BuryingLines.{AbsentAreBuried-lines}
use Rattle.vms_file_order.proofs.burials.lines_bury_who_goes_absent.Goals as goal

pub returns : goal.returns
returns c = AbsentAreBuried-lines
