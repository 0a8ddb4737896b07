use Rattle.vms_group_lines.proofs.Volumes.{judged_group-fits}
use Rattle.vms_group_lines.proofs.laws.judged_group_lines_fit.Goals as goal

pub returns : goal.returns
returns c = judged_group-fits
