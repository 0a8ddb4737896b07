-- The steps of the snapshot, by the layout and the header that the handle shares.
use Rattle.std.proofs.Common.{MatchResult, sym, subst}
use Rattle.std.specs.Arc.{arc_value}
use Rattle.vms_world.specs.Common.{Facts, Header, IsCounter, IsSnapshot, Shape}
use Rattle.vms_counters.specs.Calls.{Makes, Refuses}
use Rattle.vms_counters.specs.Handles.{AnyHandle, PageHandle, handle_of}
use Rattle.vms_counters.specs.declared.errors.CallError.TheVariants.{NoCounter}
use Rattle.vms_counters.specs.declared.shared.SharedCounters.{SharedCounters}
use Rattle.vms_counters.proofs.handles.Handle.snapshot.Goals as goal

pub returns-clause-made : goal.returns-clause-made
returns-clause-made c =
    let inside = c.self.inside in
    let here = (arc_value inside.shared).header in
    let page = inside.passes.page in
    let new = c.snapshot.new.pass in
    let says : Shape → Header → PageHandle → Type 0 = λ shape header old.
    MatchResult c.snapshot.result
    (λ value. Makes (IsCounter shape c.args.counter.number)
    (λ steps. IsSnapshot shape c.args.counter steps value) (handle_of header new.pass new.volume) old)
    (Refuses (IsCounter shape c.args.counter.number) (NoCounter c.args.counter.number)
    (handle_of header new.pass new.volume) old) in
    subst (λ (h : AnyHandle). says h.page.pass.facts.layout here h.page) c.self.view_is
    (subst (λ (facts : Facts). says facts.layout here (handle_of here page.pass page.volume))
    (sym c.self.invariant.between.of.facts)
    (subst (λ (shared : SharedCounters). says shared.tables.pages.facts.layout shared.header
    (handle_of shared.header page.pass page.volume)) c.deref.ensures c.snapshot.ensures.made))
