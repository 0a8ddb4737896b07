-- Segment by segment.
use Rattle.vms_total_laws.proofs.SegmentLines.{known-segments, numbered-segments}
use Rattle.vms_total_laws.proofs.runs.phases_keep_known_lines.Goals as goal

pub returns : goal.returns
returns c = record { known = known-segments; numbered = numbered-segments }
