-- What the counters keep once a control handle has begun.
use Rattle.std.specs.Arc.{arc_value}
use Rattle.vms_tables.specs.Common.{mains_of}
use Rattle.vms_burial.specs.Common.{passes_of as control_passes_of}
use Rattle.vms_counters.proofs.ThreeTables.{kept-begun_control}
use Rattle.vms_counters.proofs.counters.Counters.begin_control.Goals as goal

pub invariant_of-self : goal.invariant_of-self
invariant_of-self c =
    let old = c.self.inside in
    record {
      valid = c.self.invariant.valid;
      are = c.self.invariant.are;
      kept = kept-begun_control (arc_value old.shared).tables old.last (mains_of
          c.begin_control_passes-passes.new.mains)
          (mains_of old.mains) (control_passes_of c.begin_control_passes-passes.result) old.volumes.items old.control
          c.self.invariant.kept c.begin_control_passes-passes.ensures;
    }
