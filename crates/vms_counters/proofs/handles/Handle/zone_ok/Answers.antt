-- What is true after a yes, by the header that the handle shares.
use Rattle.std.proofs.Common.{◌≡◌, ◌≢◌, true, IfOk, subst}
use Rattle.vms_world.specs.Common.{limit_of}
use Rattle.vms_kswapd.specs.Common.{CountsBlocks}
use Rattle.vms_look.specs.Common.{SaysTruly}
use Rattle.vms_counters.specs.declared.shared.SharedCounters.{SharedCounters}
use Rattle.vms_counters.specs.Handles.{AnyHandle, PageHandle, handle_of}
use Rattle.vms_counters.proofs.handles.Handle.zone_ok.Goals as goal

pub returns-clause-truly : goal.returns-clause-truly
returns-clause-truly c =
    let inside = c.self.inside in
    let claim : PageHandle → Type 0 = λ h.
    IfOk c.zone_ok.result (λ verdict. verdict.yes ≡ true → verdict.fast ≡ true →
    SaysTruly c.zone_ok.new.pass.pass h.pass c.args.zone
    (limit_of h.header c.args.zone.number c.args.mark c.args.most)) in
    subst (λ (h : AnyHandle). claim h.page) c.self.view_is
    (subst (λ (shared : SharedCounters). claim (handle_of shared.header inside.passes.page.pass
    inside.passes.page.volume))
    c.deref.ensures c.zone_ok.ensures.truly)

pub returns-clause-counts : goal.returns-clause-counts
returns-clause-counts c =
    let inside = c.self.inside in
    let claim : PageHandle → Type 0 = λ h.
    IfOk c.zone_ok.result (λ verdict. verdict.yes ≡ true → c.args.order ≢ 0 →
    CountsBlocks h.header c.zone_ok.new.pass.pass h.pass c.args.zone c.args.order verdict.area) in
    subst (λ (h : AnyHandle). claim h.page) c.self.view_is
    (subst (λ (shared : SharedCounters). claim (handle_of shared.header inside.passes.page.pass
    inside.passes.page.volume))
    c.deref.ensures c.zone_ok.ensures.counts)
