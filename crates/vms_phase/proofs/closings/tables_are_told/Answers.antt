use Rattle.vms_phase.proofs.JobLists.{counters-told, events-told, pages-told}
use Rattle.vms_phase.proofs.closings.tables_are_told.Goals as goal

pub returns : goal.returns
returns c = record { pages = pages-told; events = events-told; counters = counters-told }
