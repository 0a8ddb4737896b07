-- The lines of each call are those of the steps that its history goes on with.
use Rattle.std.proofs.Common.{ℕ, ℤ, [], ◌∷◌, Bool, SFits, ap, refl, rules, subst, sym, to_z-of_z, w64, ◌∙◌}
use Rattle.std.proofs.lemmas.Result.{on_ok_weaker}
use Rattle.vms_calls.specs.Common.{LoadG, LoadS, at_least_zero, system_at, value_at}
use Rattle.vms_calls.specs.declared.answers.Verdict.{Verdict}
use Rattle.vms_calls.specs.declared.page_calls.PageAnswer.TheVariants as answer
use Rattle.vms_calls.specs.declared.page_calls.PageCall.{PageCall}
use Rattle.vms_calls.specs.declared.page_calls.PageCall.TheVariants.{Bury, Change, SetNormal, SetPressure, Snapshot}
use Rattle.vms_calls.specs.declared.page_calls.PageCall.TheVariants.{System, Test, Turn, Value}
use Rattle.vms_plans.specs.Common.{snapshot_plan, system_plan, test_plan, value_plan}
use Rattle.vms_plain_pages.proofs.SnapshotSteps.{snapshot-made}
use Rattle.vms_plain_pages.proofs.TestSteps.{test-made}
use Rattle.vms_plain_pages.specs.Common.{snapshot_of, verdict_at}
use Rattle.vms_plain_control.specs.PageCalls.{FitsPageCall, HasAllForCall}
use Rattle.vms_text.proofs.Common.{OnErr-true}
use Rattle.vms_call_lines.specs.Calls.{WritesCall}
use Rattle.vms_call_lines.specs.Folds.{WritesFold}
use Rattle.vms_call_lines.proofs.CallLines.{change-written, fold-written, look-written}
use Rattle.vms_call_lines.proofs.ControlLines.{control-written}
use Rattle.vms_call_lines.proofs.calls.write_call.Goals as goal

pub returns-in-Change-clause-writes : goal.returns-in-Change-clause-writes
returns-in-Change-clause-writes g c =
    let header = c.args.header.now in
    let pressure = g.P.Rule.answers c.args.rules.now.pressure in
    let normal = g.N.Rule.answers c.args.rules.now.normal in
    let owner = c.args.owner in
    let p = c.args.caller in
    let s = c.args.pages.now in
    let out = c.args.out.now.items in
    let new = c.write_own_change.new in
    let k = c.in-Change.counter in
    let how = c.in-Change.mode in
    let fits : SFits w64 c.in-Change.delta = search rules in
    on_ok_weaker c.write_own_change.result
    (λ writes. change-written header pressure normal writes.0 k _ how c.args.call owner p s new.pages writes.1
    c.args.peaks.now out new.out.items
    (c.in-Change.is ∙ ap (λ (z : ℤ). Change k z how) (sym (to_z-of_z fits))) writes.2 writes.3 writes.4)
    c.write_own_change.ensures.ok

pub returns-in_ok-write_test-in-Test-clause-writes : goal.returns-in_ok-write_test-in-Test-clause-writes
returns-in_ok-write_test-in-Test-clause-writes g c =
    let header = c.args.header.now in
    let pressure = g.P.Rule.answers c.args.rules.now.pressure in
    let normal = g.N.Rule.answers c.args.rules.now.normal in
    let owner = c.args.owner in
    let p = c.args.caller in
    let s = c.args.pages.now in
    let out = c.args.out.now.items in
    let zone = c.in-Test.zone in
    let mark = c.in-Test.mark in
    let most = c.in-Test.most in
    let fits = subst (λ (call : PageCall). FitsPageCall header call owner s) c.in-Test.is c.requires.fits in
    let has = subst (λ (call : PageCall). HasAllForCall header call s c.args.peaks.now) c.in-Test.is c.requires.has in
    look-written header pressure normal (Test zone mark most) c.args.call owner p s c.args.peaks.now out
    c.write_test.new.out.items (answer.Tested (verdict_at header zone.number mark most s))
    (λ (v : Verdict). answer.Tested v) (test_plan header zone mark most) _ c.tells.ensures.pressure c.tells.ensures.normal
    c.in-Test.is refl (λ k delta how same. cc) (λ base h. refl) (refl, refl)
    (λ base h q. test-made header has.0.is_layout s has.1 zone fits.0 mark most owner)
    (c.in_ok-write_test-in-Test.ensures.ok owner)

pub returns-in_ok-write_value-in-Value-clause-writes : goal.returns-in_ok-write_value-in-Value-clause-writes
returns-in_ok-write_value-in-Value-clause-writes g c =
    let header = c.args.header.now in
    let pressure = g.P.Rule.answers c.args.rules.now.pressure in
    let normal = g.N.Rule.answers c.args.rules.now.normal in
    let owner = c.args.owner in
    let p = c.args.caller in
    let s = c.args.pages.now in
    let out = c.args.out.now.items in
    let k = c.in-Value.counter in
    let value = value_at s k.number in
    look-written header pressure normal (Value k) c.args.call owner p s c.args.peaks.now out c.write_value.new.out.items
    (answer.Value (at_least_zero value)) (λ (n : ℕ). answer.Value n) (value_plan k) _ c.tells.ensures.pressure
    c.tells.ensures.normal c.in-Value.is refl (λ k delta how same. cc) (λ base h. refl) (refl, refl)
    (λ base h q. (LoadG k value ∷ [], record { value = value; in_order = refl; answers = refl }, (refl, refl)))
    (c.in_ok-write_value-in-Value.ensures.ok owner)

pub returns-in_ok-write_snapshot-in-Snapshot-clause-writes : goal.returns-in_ok-write_snapshot-in-Snapshot-clause-writes
returns-in_ok-write_snapshot-in-Snapshot-clause-writes g c =
    let header = c.args.header.now in
    let pressure = g.P.Rule.answers c.args.rules.now.pressure in
    let normal = g.N.Rule.answers c.args.rules.now.normal in
    let owner = c.args.owner in
    let p = c.args.caller in
    let s = c.args.pages.now in
    let out = c.args.out.now.items in
    let k = c.in-Snapshot.counter in
    let fits = subst (λ (call : PageCall). FitsPageCall header call owner s) c.in-Snapshot.is c.requires.fits in
    let has = subst (λ (call : PageCall). HasAllForCall header call s c.args.peaks.now) c.in-Snapshot.is c.requires.has in
    look-written header pressure normal (Snapshot k) c.args.call owner p s c.args.peaks.now out
    c.write_snapshot.new.out.items (answer.Snapshot (snapshot_of header.layout s k.number)) (λ (n : ℕ). answer.Snapshot n)
    (snapshot_plan header.layout k) _ c.tells.ensures.pressure c.tells.ensures.normal c.in-Snapshot.is refl
    (λ k delta how same. cc) (λ base h. refl) (refl, refl)
    (λ base h q. snapshot-made header.layout c.in_ok-write_snapshot-in-Snapshot.ensures.is_layout s has k fits owner)
    (c.in_ok-write_snapshot-in-Snapshot.ensures.writes owner)

pub returns-in_ok-write_system-in-System-clause-writes : goal.returns-in_ok-write_system-in-System-clause-writes
returns-in_ok-write_system-in-System-clause-writes g c =
    let header = c.args.header.now in
    let pressure = g.P.Rule.answers c.args.rules.now.pressure in
    let normal = g.N.Rule.answers c.args.rules.now.normal in
    let owner = c.args.owner in
    let p = c.args.caller in
    let s = c.args.pages.now in
    let out = c.args.out.now.items in
    let i = c.in-System.item in
    let value = system_at s i.number in
    look-written header pressure normal (System i) c.args.call owner p s c.args.peaks.now out
    c.write_system.new.out.items (answer.System (at_least_zero value)) (λ (n : ℕ). answer.System n) (system_plan i) _
    c.tells.ensures.pressure c.tells.ensures.normal c.in-System.is refl (λ k delta how same. cc) (λ base h. refl)
    (refl, refl) (λ base h q. (LoadS i value ∷ [], record { value = value; in_order = refl; answers = refl }, (refl, refl)))
    (c.in_ok-write_system-in-System.ensures.ok owner)

pub returns-in-Fold-clause-writes : goal.returns-in-Fold-clause-writes
returns-in-Fold-clause-writes g c =
    let header = c.args.header.now in
    let pressure = g.P.Rule.answers c.args.rules.now.pressure in
    let normal = g.N.Rule.answers c.args.rules.now.normal in
    let owner = c.args.owner in
    let cpu = c.in-Fold.cpu in
    let p = c.args.caller in
    let s = c.args.pages.now in
    let next = c.write_fold.new.pages in
    let peaks = c.args.peaks.now in
    let out = c.args.out.now.items in
    let out' = c.write_fold.new.out.items in
    on_ok_weaker c.write_fold.result
    (λ writes. subst (λ (call : PageCall). WritesCall header pressure normal call owner p s peaks next peaks out out')
    (sym c.in-Fold.is)
    (fold-written header pressure normal cpu owner p s next peaks out out' c.tells.ensures.pressure c.tells.ensures.normal
    (subst (λ (b : Bool). WritesFold header.layout b cpu p s next out out') c.owns_cpu-own.ensures writes)))
    c.write_fold.ensures.ok

pub returns-in-SetPressure-clause-writes : goal.returns-in-SetPressure-clause-writes
returns-in-SetPressure-clause-writes g c =
    let header = c.args.header.now in
    let owner = c.args.owner in
    let s = c.args.pages.now in
    let rating = c.write_node_rating in
    let fits = subst (λ (call : PageCall). FitsPageCall header call owner s) c.in-SetPressure.is c.requires.fits in
    on_ok_weaker rating.result
    (λ writes. control-written header (g.P.Rule.answers c.args.rules.now.pressure)
    (g.N.Rule.answers c.args.rules.now.normal) (SetPressure c.in-SetPressure.node) c.args.call owner answer.Done c.args.caller s
    rating.new.pages c.args.peaks.now rating.new.peaks c.args.out.now.items rating.new.out.items c.in-SetPressure.is fits.0
    (λ k delta how same. cc) (rating.ensures.rest, rating.ensures.sets) (λ base h p controls unladen. writes base h p controls))
    rating.ensures.writes

pub returns-in-SetNormal-clause-writes : goal.returns-in-SetNormal-clause-writes
returns-in-SetNormal-clause-writes g c =
    let header = c.args.header.now in
    let owner = c.args.owner in
    let s = c.args.pages.now in
    let rating = c.write_node_rating-in-SetNormal in
    let fits = subst (λ (call : PageCall). FitsPageCall header call owner s) c.in-SetNormal.is c.requires.fits in
    on_ok_weaker rating.result
    (λ writes. control-written header (g.P.Rule.answers c.args.rules.now.pressure)
    (g.N.Rule.answers c.args.rules.now.normal) (SetNormal c.in-SetNormal.node) c.args.call owner answer.Done c.args.caller s
    rating.new.pages c.args.peaks.now rating.new.peaks c.args.out.now.items rating.new.out.items c.in-SetNormal.is fits.0
    (λ k delta how same. cc) (rating.ensures.rest, rating.ensures.sets) (λ base h p controls unladen. writes base h p controls))
    rating.ensures.writes

pub returns-in_ok-write_burial-in-Bury-clause-writes : goal.returns-in_ok-write_burial-in-Bury-clause-writes
returns-in_ok-write_burial-in-Bury-clause-writes g c =
    let header = c.args.header.now in
    let owner = c.args.owner in
    let s = c.args.pages.now in
    let new = c.write_burial.new in
    let burial = c.in_ok-write_burial-in-Bury.ensures in
    let fits = subst (λ (call : PageCall). FitsPageCall header call owner s) c.in-Bury.is c.requires.fits in
    control-written header (g.P.Rule.answers c.args.rules.now.pressure)
    (g.N.Rule.answers c.args.rules.now.normal) (Bury c.in-Bury.cpu) c.args.call owner answer.Done c.args.caller s
    new.pages c.args.peaks.now new.peaks c.args.out.now.items new.out.items c.in-Bury.is fits.0
    (λ k delta how same. cc) (burial.folds, burial.sets) burial.writes

pub returns-in_ok-write_turn-in-Turn-clause-writes : goal.returns-in_ok-write_turn-in-Turn-clause-writes
returns-in_ok-write_turn-in-Turn-clause-writes g c =
    let header = c.args.header.now in
    let owner = c.args.owner in
    let s = c.args.pages.now in
    let new = c.write_turn.new in
    let turn = c.in_ok-write_turn-in-Turn.ensures in
    let fits = subst (λ (call : PageCall). FitsPageCall header call owner s) c.in-Turn.is c.requires.fits in
    control-written header (g.P.Rule.answers c.args.rules.now.pressure)
    (g.N.Rule.answers c.args.rules.now.normal) (Turn c.in-Turn.node c.in-Turn.order c.in-Turn.most) c.args.call owner
    (answer.Balanced _) c.args.caller s new.pages c.args.peaks.now new.peaks c.args.out.now.items new.out.items
    c.in-Turn.is fits.0 (λ k delta how same. cc) (turn.answer, turn.rest, turn.sets)
    (λ base h p controls unladen. turn.writes base h p controls)

pub returns-in-SetPressure-clause-err : goal.returns-in-SetPressure-clause-err
returns-in-SetPressure-clause-err g c =
    OnErr-true c.write_node_rating.result _
    c.write_node_rating.ensures.begins

pub returns-in-SetNormal-clause-err : goal.returns-in-SetNormal-clause-err
returns-in-SetNormal-clause-err g c =
    OnErr-true c.write_node_rating-in-SetNormal.result _
    c.write_node_rating-in-SetNormal.ensures.begins
