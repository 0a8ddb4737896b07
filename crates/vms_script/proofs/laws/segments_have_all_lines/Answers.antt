use Rattle.vms_script.proofs.BodySegments.{SegmentsHaveAllLines-holds}
use Rattle.vms_script.proofs.laws.segments_have_all_lines.Goals as goal

pub returns : goal.returns
returns c = SegmentsHaveAllLines-holds
