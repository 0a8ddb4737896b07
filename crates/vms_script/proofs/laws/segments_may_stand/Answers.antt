use Rattle.vms_script.proofs.BodySegments.{SegmentsMayStand-holds}
use Rattle.vms_script.proofs.laws.segments_may_stand.Goals as goal

pub returns : goal.returns
returns c = SegmentsMayStand-holds
