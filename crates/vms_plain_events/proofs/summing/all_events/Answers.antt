-- The loads that find what was summed.
use Rattle.std.proofs.Common.{◌≡◌, arith}
use Rattle.vms_history.specs.Common.{online_from}
use Rattle.vms_event_core.specs.Common.{sum_over}
use Rattle.vms_plain_events.proofs.OnlineWords.{IsAllEvents-alone, sum_over-end}
use Rattle.vms_plain_events.proofs.summing.all_events.Goals as goal

pub returns-clause-made : goal.returns-clause-made
returns-clause-made c =
    let s = c.args.events.now in
    let states = c.args.states.now in
    let none = sum_over-end s c.args.event.number states c.loop-number.number (omega arith) in
    let is : c.loop-number.sum ≡ sum_over s c.args.event.number (online_from 0 states) =
    omega (arith, none, c.loop-number.invariant) in
    IsAllEvents-alone s c.args.event (online_from 0 states) c.loop-number.sum is
