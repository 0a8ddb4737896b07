-- What the handle keeps, whether the sum was made or refused.
use Rattle.vms_counters.proofs.EventVolumes.{summed-either}
use Rattle.vms_counters.specs.declared.shared.SharedCounters.{SharedCounters}
use Rattle.std.proofs.Common.{subst}
use Rattle.vms_seats.specs.Common.{IsFrom}
use Rattle.vms_counters.proofs.handles.Handle.events.Goals as goal

pub invariant_of-self : goal.invariant_of-self
invariant_of-self c =
    let old = c.self.inside in
    let own = c.self.invariant in
    record {
      valid = own.valid;
      between = own.between;
      owns = own.owns;
      of_event = subst (λ (shared : SharedCounters). IsFrom c.sum_up.new.pass.pass shared.tables.events) c.deref.ensures
          c.sum_up.ensures.of;
      event = summed-either c.sum_up.new.pass old.passes.event old.cpu c.args.event own.event
          c.counts_alone_spend.ensures.call c.sum_up.result c.sum_up.ensures.made;
      of_pcpu = own.of_pcpu;
      owns_pcpu = own.owns_pcpu;
    }
