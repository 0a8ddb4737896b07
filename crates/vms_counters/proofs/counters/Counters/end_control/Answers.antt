-- What the counters keep once a control handle has ended.
use Rattle.std.proofs.Common.{ap, sym, ◌∙◌}
use Rattle.std.specs.Arc.{arc_value}
use Rattle.vms_tables.specs.Common.{mains_of}
use Rattle.vms_tables.specs.declared.tables.Tables.{Tables}
use Rattle.vms_burial.specs.Common.{passes_of as control_passes_of}
use Rattle.vms_counters.specs.Handles.{AnyHandle}
use Rattle.vms_counters.specs.Opened.{Opened}
use Rattle.vms_counters.proofs.ThreeTables.{kept-ended_control}
use Rattle.vms_counters.proofs.counters.Counters.end_control.Goals as goal

pub invariant_of-self : goal.invariant_of-self
invariant_of-self c =
    let old = c.self.inside in
    let passes = c.handle.inside.passes in
    let own = c.handle.invariant in
    let kept = c.self.invariant.kept in
    let same = ap (λ (h : AnyHandle). h.tables) c.handle.view_is ∙ c.requires
    ∙ sym (ap (λ (o : Opened). o.tables) c.self.view_is) in
    record {
      valid = c.self.invariant.valid;
      are = c.self.invariant.are;
      kept = kept-ended_control (arc_value old.shared).tables old.last (mains_of c.end_control_passes.new.mains)
          (mains_of old.mains) (control_passes_of passes) old.volumes.items old.control kept c.is_live.ensures
          c.is_control.ensures.live c.is_ready.ensures.ready.live
          (own.between.of.facts ∙ ap (λ (t : Tables). t.pages.facts) same ∙ sym kept.pages.of.facts)
          (own.of_event.facts ∙ ap (λ (t : Tables). t.events.facts) same ∙ sym kept.events.of.facts)
          (own.of_pcpu.facts ∙ ap (λ (t : Tables). t.counters.facts) same ∙ sym kept.counters.of.facts)
          c.end_control_passes.ensures passes.owns_none c.is_control.ensures.owns_none c.is_ready.ensures.none;
    }
