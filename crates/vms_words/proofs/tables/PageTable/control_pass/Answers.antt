-- The goals were that the main pass keeps settings while no control pass lives, that those stand as one begins, and that
-- it needs none while that one lives.
use Rattle.std.proofs.Common.{◌≡◌, None, sym, subst}
use Rattle.vms_calls.specs.Common.{IsFree, Facts, Step, role}
use Rattle.vms_seats.specs.Common.{Pass}
use Rattle.vms_words.specs.declared.kept.Settings.{Settings}
use Rattle.vms_words.specs.Common.{IsMainPass, KeepsSettings}
use Rattle.vms_words.proofs.MainSettings.{IsControlPass-begun, IsMainPass-lent}
use Rattle.vms_words.proofs.tables.PageTable.control_pass.Goals as goal

pub unreachable-requires : goal.unreachable-requires
unreachable-requires c =
    let had = c.main.invariant
    (subst (λ (p : Pass Facts Step). IsFree role p.seen None) (sym c.main.view_is) c.requires.free) in
    let some = had.1 in
    let none = c.in_default.is in
    let taken = c.take.ensures.value in
    cc

pub invariant_of-result : goal.invariant_of-result
invariant_of-result c =
    let free = subst (λ (p : Pass Facts Step). IsFree role p.seen None) (sym c.main.view_is) c.requires.free in
    let had = c.main.invariant free in
    let some = had.1 in
    let is = c.in-Some.is in
    let taken = c.take.ensures.value in
    let same : had.0 ≡ c.in-Some.kept = cc in
    IsControlPass-begun c.begin-worker.new.self c.main.inside.main c.begin-worker.result c.begin-worker.ensures
    c.in-Some.kept free
    (subst (λ (kept : Settings). KeepsSettings c.main.inside.main.facts c.main.inside.main.seen kept) same had.2)

pub invariant_of-main : goal.invariant_of-main
invariant_of-main c =
    subst (IsMainPass c.begin-worker.new.self) (sym c.take.ensures.after)
    (IsMainPass-lent c.begin-worker.new.self c.main.inside.main c.begin-worker.result c.begin-worker.ensures)
