-- What the counters keep once a handle has ended.
use Rattle.std.proofs.Common.{rules, ◌≡◌, length, Some, set, arith, ap, sym, ◌∙◌, subst}
use Rattle.std.specs.Arc.{arc_value}
use Rattle.vms_world.specs.Common.{CpuVolumes}
use Rattle.vms_tables.specs.Common.{mains_of}
use Rattle.vms_counters.specs.Handles.{AnyHandle}
use Rattle.vms_counters.specs.Opened.{AreKept, Opened}
use Rattle.vms_counters.proofs.ThreeTables.{ended-cpu, known-cpu}
use Rattle.vms_counters.proofs.counters.Counters.end.Goals as goal

pub index_mut-requires : goal.index_mut-requires
index_mut-requires c =
    let old = c.self.inside in
    let handle = c.handle.inside in
    let same = ap (λ (h : AnyHandle). h.tables) c.handle.view_is ∙ c.requires
    ∙ sym (ap (λ (o : Opened). o.tables) c.self.view_is) in
    let below = known-cpu (arc_value handle.shared).header (arc_value handle.shared).tables
    (arc_value old.shared).tables same old.last (mains_of old.mains) old.volumes.items old.control
    c.self.invariant.kept handle.cpu handle.passes c.handle.invariant c.holds_spending.result c.holds_spending.ensures
    in
    let long : length old.volumes.items ≡ old.volumes.len = search rules in
    omega (arith, below, long)

pub invariant_of-self : goal.invariant_of-self
invariant_of-self c =
    let old = c.self.inside in
    let handle = c.handle.inside in
    let same = ap (λ (h : AnyHandle). h.tables) c.handle.view_is ∙ c.requires
    ∙ sym (ap (λ (o : Opened). o.tables) c.self.view_is) in
    record {
      valid = c.self.invariant.valid;
      are = c.self.invariant.are;
      kept = subst (λ (back : CpuVolumes). AreKept (arc_value old.shared).tables old.last
          (mains_of c.end_passes-volumes.new.mains) (set old.volumes.items handle.cpu.number (Some back)) old.control)
          (sym c.end_passes-volumes.ensures.volumes)
          (ended-cpu (arc_value handle.shared).header (arc_value handle.shared).tables
          (arc_value old.shared).tables same old.last (mains_of c.end_passes-volumes.new.mains) (mains_of old.mains)
          old.volumes.items old.control c.self.invariant.kept handle.cpu handle.passes c.handle.invariant
          c.holds_spending.result c.holds_spending.ensures c.cpu.result c.cpu.ensures.ready c.cpu.ensures.owns
          c.cpu.ensures.holds c.end_passes-volumes.ensures.ended);
    }
