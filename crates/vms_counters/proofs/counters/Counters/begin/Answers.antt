-- What the volumes that are kept say of the passes, and what the counters and the handle keep once it has begun.
use Rattle.std.proofs.Common.{rules, ◌≡◌, List, Option, arith, sym, ◌∙◌, subst}
use Rattle.std.specs.Arc.{arc_value}
use Rattle.vms_world.specs.Common.{CpuVolumes}
use Rattle.vms_tables.specs.Common.{mains_of, passes_of}
use Rattle.vms_tables.specs.declared.tables.Tables.{Tables}
use Rattle.vms_counters.specs.Opened.{AreKept, MayBegin}
use Rattle.vms_counters.proofs.ThreeTables.{kept-begun, may-begin}
use Rattle.vms_counters.proofs.counters.Counters.begin.Goals as goal

pub cpu_at-requires : goal.cpu_at-requires
cpu_at-requires c =
    let kept = c.self.invariant.kept in
    omega (arith, c.if-at-len.false, c.len.ensures, kept.one_each, kept.shaped.cpu)

pub begin_passes-passes-requires-clause-may : goal.begin_passes-passes-requires-clause-may
begin_passes-passes-requires-clause-may c =
    let old = c.self.inside in
    let tables = (arc_value old.shared).tables in
    let same : c.deref.result.now.tables ≡ tables = search rules in
    subst (λ (t : Tables). MayBegin t (mains_of old.mains) c.args.cpu c.take_kept-volumes.result) (sym same)
    (may-begin (arc_value old.shared).header tables c.self.invariant.are old.last (mains_of old.mains)
    old.volumes.items old.control c.self.invariant.kept c.args.cpu c.take_kept-volumes.result
    (omega (arith, c.if-at-len.false, c.len.ensures))
    (sym c.cpu_at.ensures ∙ c.is_online.ensures.0 c.if-not-is_online.false)
    c.take_kept-volumes.ensures.value)

pub invariant_of-self : goal.invariant_of-self
invariant_of-self c =
    let old = c.self.inside in
    record {
      valid = c.self.invariant.valid;
      are = c.self.invariant.are;
      kept = subst (λ (volumes : List (Option CpuVolumes)). AreKept (arc_value old.shared).tables old.last
          (mains_of c.begin_passes-passes.new.mains) volumes old.control) (sym c.take_kept-volumes.ensures.after)
          (kept-begun (arc_value old.shared).tables old.last (mains_of c.begin_passes-passes.new.mains)
          (mains_of old.mains) (passes_of c.begin_passes-passes.result) old.volumes.items old.control
          c.self.invariant.kept c.args.cpu (omega (arith, c.if-at-len.false, c.len.ensures))
          c.begin_passes-passes.ensures.begun);
    }
