-- The goal was that the words of two CPUs stand in two lines.
use Rattle.vms_event_core.specs.Common.{event_count}
use Rattle.vms_event.proofs.laws.cpus_share_no_line.Goals as goal

pub returns : goal.returns
returns c = c.rows_share_no_line.ensures event_count
