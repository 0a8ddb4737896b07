-- What the handle keeps, whether the count was made or refused.
use Rattle.std.proofs.Common.{rules}
use Rattle.std.specs.Arc.{arc_value}
use Rattle.vms_world.specs.Common.{IsEvent}
use Rattle.vms_counters.proofs.EventVolumes.{covers-either, of-either}
use Rattle.vms_counters.proofs.handles.Handle.count_event.Goals as goal

pub invariant_of-self : goal.invariant_of-self
invariant_of-self c =
    let old = c.self.inside in
    let own = c.self.invariant in
    let known : IsEvent c.args.event.number = search rules in
    record {
      valid = own.valid;
      between = own.between;
      owns = own.owns;
      of_event = of-either c.count.new.pass old.passes.event (arc_value old.shared).tables.events c.args.event
          c.args.times own.of_event c.count.result c.count.ensures.made c.count.ensures.err;
      event = covers-either c.count.new.pass old.passes.event old.cpu c.args.event c.args.times known own.event
          c.counts_alone_spend.ensures.call c.count.result c.count.ensures.made c.count.ensures.volume
          c.count.ensures.err;
      of_pcpu = own.of_pcpu;
      owns_pcpu = own.owns_pcpu;
    }
