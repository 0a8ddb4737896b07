-- The room for the first events, and for one more.
use Rattle.std.proofs.Common.{◌≤◌, arith, length}
use Rattle.std.proofs.lemmas.List.{take_all}
use Rattle.vms_group_registers.proofs.EnoughRoom.{more-enough, more-least, more-rising}
use Rattle.vms_group_registers.proofs.rooms.most_rising.Goals as goal

pub loop-event-preserved : goal.loop-event-preserved
loop-event-preserved c =
    let tree = c.args.tree.now in
    let events = c.args.events.now in
    let i = c.loop-event.event-index in
    let keeps = c.loop-event.invariant in
    let larger = c.larger-most.ensures in
    let next = c.rising-count.ensures.value in
    let below = keeps.below in
    let grown = c.rising-count.ensures.most in
    record {
      count = more-rising tree events i _ c.loop-event-test.true c.loop-event.count c.loop-event.most
          c.rising-count.result keeps.count keeps.within keeps.enough keeps.least next;
      below = omega arith;
      within = omega arith;
      enough = rw larger (more-enough tree events i _ c.loop-event-test.true c.loop-event.count c.loop-event.most
          c.rising-count.result keeps.count keeps.within keeps.enough keeps.least next);
      least = rw larger (more-least tree events i _ c.loop-event-test.true c.loop-event.count c.loop-event.most
          c.rising-count.result keeps.count keeps.within keeps.enough keeps.least next);
    }

pub returns-clause-least : goal.returns-clause-least
returns-clause-least c = λ room had.
    let past : length c.args.events.now ≤ c.loop-event.event-index = omega arith in
    c.loop-event.invariant.least room
    (rw (take_all c.loop-event.event-index c.args.events.now past) had)
