use Rattle.std.proofs.Common.{◌≡◌, ◌+◌, drop}
use Rattle.vms_history.specs.Common.{online_from}
use Rattle.vms_event_core.specs.Common.{sum_over}
use Rattle.vms_plain_events.proofs.summing.all_events.Given as goal

-- what is summed, and what is left to sum
abbrev pub invariant-loop-number : goal.invariant-loop-number
invariant-loop-number l =
    l.sum + sum_over l.events l.event.number (online_from l.number (drop l.number l.states))
    ≡ sum_over l.events l.event.number (online_from 0 l.states)
