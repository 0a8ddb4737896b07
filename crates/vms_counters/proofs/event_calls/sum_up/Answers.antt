-- The sum lies between what the words came to when the call began and when it ended.
use Rattle.std.proofs.Common.{rules, sym, subst}
use Rattle.vms_event_core.specs.Calls.{IsAllEvents}
use Rattle.vms_world.specs.Common.{EventFacts, IsEvent, online_cpus}
use Rattle.vms_counters.proofs.event_calls.sum_up.Goals as goal

pub returns-clause-made : goal.returns-clause-made
returns-clause-made g c =
    let old = g.P.Works.pass c.args.pass.now in
    let new = g.P.Works.pass c.all_events.new.pass in
    let made = c.all_events.ensures.made in
    let known : IsEvent c.args.event.number = search rules in
    let is = subst (λ (facts : EventFacts). IsAllEvents (online_cpus facts) c.args.event made.0 made.1
    c.all_events.result) (sym c.requires.facts) made.2 in
    record {
      event = known;
      found = made.0;
      steps = made.1;
      is_sum = is;
      made = made.3;
      between = c.online_words_grow.ensures.between old.facts new.seen old.seen old.number c.args.event made.0 made.1
          c.all_events.result made.3.made known is;
      volume = c.all_events.ensures.volume;
    }
