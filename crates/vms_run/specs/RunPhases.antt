-- What the tables of a phase that was run were told.
use Rattle.vms_phase.specs.declared.closings.ClosedHistories.{ClosedHistories}
use Rattle.vms_replay.specs.Common.{PhaseFacts}

-- what the tables of closed histories were told
abbrev pub facts_told : ClosedHistories → PhaseFacts
facts_told closed =
    record { pages = closed.pages.facts; events = closed.events.facts; counters = closed.counters.facts }
