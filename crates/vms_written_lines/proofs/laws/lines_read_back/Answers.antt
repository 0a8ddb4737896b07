-- The laws are lemmas of their own.
use Rattle.vms_written_lines.proofs.EventsRead.{EventsReadBack-holds, PhasesReadBack-holds}
use Rattle.vms_written_lines.proofs.laws.lines_read_back.Goals as goal

pub returns-clause-events : goal.returns-clause-events
returns-clause-events c = EventsReadBack-holds

pub returns-clause-phases : goal.returns-clause-phases
returns-clause-phases c = PhasesReadBack-holds
