-- Which marks stand, by the facts that the handle's pass has.
use Rattle.std.proofs.Common.{IfOk, subst, sym}
use Rattle.vms_world.specs.Common.{ByNormal, Facts, Step}
use Rattle.vms_control.specs.SettledMarks.{SettlesNode}
use Rattle.vms_seats.specs.Common.{Pass}
use Rattle.vms_counters.specs.declared.shared.SharedCounters.{SharedCounters}
use Rattle.vms_counters.specs.Handles.{AnyHandle}
use Rattle.vms_counters.proofs.control_handles.ControlHandle.set_normal.Goals as goal

pub returns-clause-marks : goal.returns-clause-marks
returns-clause-marks g c =
    let pass = c.self.inside.passes.page in
    let settles : Facts → Pass Facts Step → Type 0 = λ facts old.
    IfOk c.set_normal.result (λ done. SettlesNode facts
    (ByNormal (g.N.Rule.answers c.args.rules.now.normal)) c.args.node c.set_normal.new.pass old) in
    subst (λ (h : AnyHandle). settles h.page.pass.facts h.page.pass) c.self.view_is
    (subst (λ (facts : Facts). settles facts pass) (sym c.self.invariant.between.of.facts)
    (subst (λ (shared : SharedCounters). settles shared.tables.pages.facts pass) c.deref.ensures
    c.set_normal.ensures.marks))
