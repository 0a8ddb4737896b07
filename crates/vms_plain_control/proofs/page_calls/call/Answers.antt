-- How a history goes on by each call.
use Rattle.std.proofs.Common.{Bool, Option, SFits, refl, rules, sym, ap, subst, to_z-of_z, w64, ◌∙◌}
use Rattle.vms_core.specs.ChangedStates.{with_change}
use Rattle.vms_calls.specs.Common.{CpuId, IsFold}
use Rattle.vms_calls.specs.declared.page_calls.PageAnswer.TheVariants as answer
use Rattle.vms_calls.specs.declared.page_calls.PageCall.{PageCall}
use Rattle.vms_calls.specs.declared.page_calls.PageCall.TheVariants.{Change, Fold, Test, Value, Snapshot, System}
use Rattle.vms_calls.specs.declared.page_calls.PageCall.TheVariants.{SetPressure, SetNormal, Bury, Turn}
use Rattle.vms_calls.proofs.PageCalls.{owned-cpu}
use Rattle.vms_plain_pages.specs.Common.{CallLeadsAlone}
use Rattle.vms_plain_control.specs.PageCalls.{FitsPageCall, MakesPageCall}
use Rattle.vms_plain_control.proofs.MadeCalls.{change-made, control-made, look-made}
use Rattle.vms_plain_control.proofs.page_calls.call.Goals as goal

pub returns-in-Change-clause-makes : goal.returns-in-Change-clause-makes
returns-in-Change-clause-makes g c =
    let header = c.args.header.now in
    let pressure = g.P.Rule.answers c.args.rules.now.pressure in
    let normal = g.N.Rule.answers c.args.rules.now.normal in
    let owner = c.args.owner in
    let s = c.args.pages.now in
    let peaks = c.args.peaks.now in
    let (own, owns, changed) = c.change_own.ensures in
    let fits_delta : SFits w64 c.in-Change.delta = search rules in
    subst (λ (call : PageCall). MakesPageCall header pressure normal call owner answer.Done s peaks
    c.change_own.new.pages peaks) (sym c.in-Change.is)
    (subst (λ (who : Option CpuId). MakesPageCall header pressure normal
    (Change c.in-Change.counter c.in-Change.delta c.in-Change.mode)
    who answer.Done s peaks c.change_own.new.pages peaks)
    (sym owns)
    (change-made header pressure normal s c.change_own.new.pages peaks own c.in-Change.counter c.in-Change.delta
    c.in-Change.mode
    (changed ∙ ap (λ z. with_change header.layout own.number c.in-Change.counter.number z c.in-Change.mode s)
    (to_z-of_z fits_delta))))

pub returns-in-Fold-clause-makes : goal.returns-in-Fold-clause-makes
returns-in-Fold-clause-makes g c =
    let header = c.args.header.now in
    let pressure = g.P.Rule.answers c.args.rules.now.pressure in
    let normal = g.N.Rule.answers c.args.rules.now.normal in
    let owner = c.args.owner in
    let s = c.args.pages.now in
    let peaks = c.args.peaks.now in
    let cpu = c.in-Fold.cpu in
    let next = c.fold.new.pages in
    let is = c.owns_cpu.ensures in
    let made = subst (λ (b : Bool). CallLeadsAlone owner (IsFold header.layout b cpu) s next) is
    (c.fold.ensures.made owner (λ owns. owned-cpu owner cpu (sym is ∙ owns))) in
    subst (λ (call : PageCall). MakesPageCall header pressure normal call owner answer.Done s peaks next peaks)
    (sym c.in-Fold.is)
    (look-made header pressure normal s next peaks c.tells.ensures.pressure c.tells.ensures.normal (Fold cpu) owner
    answer.Done refl (λ k delta how same. cc) (λ base h p. made))

pub returns-in-Test-clause-makes : goal.returns-in-Test-clause-makes
returns-in-Test-clause-makes g c =
    let header = c.args.header.now in
    let pressure = g.P.Rule.answers c.args.rules.now.pressure in
    let normal = g.N.Rule.answers c.args.rules.now.normal in
    let owner = c.args.owner in
    let s = c.args.pages.now in
    let peaks = c.args.peaks.now in
    let told = answer.Tested c.watermark_test.result in
    subst (λ (call : PageCall). MakesPageCall header pressure normal call owner told s peaks s peaks) (sym c.in-Test.is)
    (look-made header pressure normal s s peaks c.tells.ensures.pressure c.tells.ensures.normal
    (Test c.in-Test.zone c.in-Test.mark c.in-Test.most) owner
    told refl (λ k delta how same. cc) (λ base h p. c.watermark_test.ensures.made owner))

pub returns-in-Value-clause-makes : goal.returns-in-Value-clause-makes
returns-in-Value-clause-makes g c =
    let header = c.args.header.now in
    let pressure = g.P.Rule.answers c.args.rules.now.pressure in
    let normal = g.N.Rule.answers c.args.rules.now.normal in
    let owner = c.args.owner in
    let s = c.args.pages.now in
    let peaks = c.args.peaks.now in
    let told = answer.Value c.place_value.result in
    subst (λ (call : PageCall). MakesPageCall header pressure normal call owner told s peaks s peaks)
    (sym c.in-Value.is)
    (look-made header pressure normal s s peaks c.tells.ensures.pressure c.tells.ensures.normal
    (Value c.in-Value.counter) owner
    told refl (λ k delta how same. cc) (λ base h p. c.place_value.ensures.made owner))

pub returns-in-Snapshot-clause-makes : goal.returns-in-Snapshot-clause-makes
returns-in-Snapshot-clause-makes g c =
    let header = c.args.header.now in
    let pressure = g.P.Rule.answers c.args.rules.now.pressure in
    let normal = g.N.Rule.answers c.args.rules.now.normal in
    let owner = c.args.owner in
    let s = c.args.pages.now in
    let peaks = c.args.peaks.now in
    let told = answer.Snapshot c.snapshot.result in
    subst (λ (call : PageCall). MakesPageCall header pressure normal call owner told s peaks s peaks)
    (sym c.in-Snapshot.is)
    (look-made header pressure normal s s peaks c.tells.ensures.pressure c.tells.ensures.normal
    (Snapshot c.in-Snapshot.counter) owner
    told refl (λ k delta how same. cc) (λ base h p. c.snapshot.ensures.made owner))

pub returns-in-System-clause-makes : goal.returns-in-System-clause-makes
returns-in-System-clause-makes g c =
    let header = c.args.header.now in
    let pressure = g.P.Rule.answers c.args.rules.now.pressure in
    let normal = g.N.Rule.answers c.args.rules.now.normal in
    let owner = c.args.owner in
    let s = c.args.pages.now in
    let peaks = c.args.peaks.now in
    let told = answer.System c.system_value.result in
    subst (λ (call : PageCall). MakesPageCall header pressure normal call owner told s peaks s peaks)
    (sym c.in-System.is)
    (look-made header pressure normal s s peaks c.tells.ensures.pressure c.tells.ensures.normal
    (System c.in-System.item) owner
    told refl (λ k delta how same. cc) (λ base h p. c.system_value.ensures.made owner))

pub returns-in-SetPressure-clause-makes : goal.returns-in-SetPressure-clause-makes
returns-in-SetPressure-clause-makes g c =
    let header = c.args.header.now in
    let pressure = g.P.Rule.answers c.args.rules.now.pressure in
    let normal = g.N.Rule.answers c.args.rules.now.normal in
    let owner = c.args.owner in
    let s = c.args.pages.now in
    let peaks = c.args.peaks.now in
    let fits = subst (λ (call : PageCall). FitsPageCall header call owner s) c.in-SetPressure.is c.requires.fits in
    let told = answer.Done in
    let next = c.set_pressure.new.pages in
    let known = c.set_pressure.new.peaks in
    subst (λ (call : PageCall). MakesPageCall header pressure normal call owner told s peaks next known)
    (sym c.in-SetPressure.is)
    (subst (λ (who : Option CpuId). MakesPageCall header pressure normal (SetPressure c.in-SetPressure.node)
    who told s peaks
    next known) (sym fits.0)
    (control-made header pressure normal s next peaks known (SetPressure c.in-SetPressure.node) told
    (λ k delta how same. cc) (λ base h p controls unladen. c.set_pressure.ensures.makes base h p controls)))

pub returns-in-SetNormal-clause-makes : goal.returns-in-SetNormal-clause-makes
returns-in-SetNormal-clause-makes g c =
    let header = c.args.header.now in
    let pressure = g.P.Rule.answers c.args.rules.now.pressure in
    let normal = g.N.Rule.answers c.args.rules.now.normal in
    let owner = c.args.owner in
    let s = c.args.pages.now in
    let peaks = c.args.peaks.now in
    let fits = subst (λ (call : PageCall). FitsPageCall header call owner s) c.in-SetNormal.is c.requires.fits in
    let told = answer.Done in
    let next = c.set_normal.new.pages in
    let known = c.set_normal.new.peaks in
    subst (λ (call : PageCall). MakesPageCall header pressure normal call owner told s peaks next known)
    (sym c.in-SetNormal.is)
    (subst (λ (who : Option CpuId). MakesPageCall header pressure normal (SetNormal c.in-SetNormal.node)
    who told s peaks
    next known) (sym fits.0)
    (control-made header pressure normal s next peaks known (SetNormal c.in-SetNormal.node) told
    (λ k delta how same. cc) (λ base h p controls unladen. c.set_normal.ensures.makes base h p controls)))

pub returns-in-Bury-clause-makes : goal.returns-in-Bury-clause-makes
returns-in-Bury-clause-makes g c =
    let header = c.args.header.now in
    let pressure = g.P.Rule.answers c.args.rules.now.pressure in
    let normal = g.N.Rule.answers c.args.rules.now.normal in
    let owner = c.args.owner in
    let s = c.args.pages.now in
    let peaks = c.args.peaks.now in
    let fits = subst (λ (call : PageCall). FitsPageCall header call owner s) c.in-Bury.is c.requires.fits in
    let told = answer.Done in
    let next = c.bury.new.pages in
    let known = c.bury.new.peaks in
    subst (λ (call : PageCall). MakesPageCall header pressure normal call owner told s peaks next known)
    (sym c.in-Bury.is)
    (subst (λ (who : Option CpuId). MakesPageCall header pressure normal (Bury c.in-Bury.cpu) who told s peaks
    next known) (sym fits.0)
    (control-made header pressure normal s next peaks known (Bury c.in-Bury.cpu) told
    (λ k delta how same. cc) c.bury.ensures.makes))

pub returns-in-Turn-clause-makes : goal.returns-in-Turn-clause-makes
returns-in-Turn-clause-makes g c =
    let header = c.args.header.now in
    let pressure = g.P.Rule.answers c.args.rules.now.pressure in
    let normal = g.N.Rule.answers c.args.rules.now.normal in
    let owner = c.args.owner in
    let s = c.args.pages.now in
    let peaks = c.args.peaks.now in
    let fits = subst (λ (call : PageCall). FitsPageCall header call owner s) c.in-Turn.is c.requires.fits in
    let told = answer.Balanced c.turn.result in
    let next = c.turn.new.pages in
    let known = c.turn.new.peaks in
    subst (λ (call : PageCall). MakesPageCall header pressure normal call owner told s peaks next known)
    (sym c.in-Turn.is)
    (subst (λ (who : Option CpuId). MakesPageCall header pressure normal
    (Turn c.in-Turn.node c.in-Turn.order c.in-Turn.most) who told s peaks
    next known) (sym fits.0)
    (control-made header pressure normal s next peaks known (Turn c.in-Turn.node c.in-Turn.order c.in-Turn.most) told
    (λ k delta how same. cc) (λ base h p controls unladen. c.turn.ensures.makes base h p controls)))
