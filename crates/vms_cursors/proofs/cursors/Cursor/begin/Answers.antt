-- A fold, the calls that give thresholds, a burial and a turn begin with their whole plans.
use Rattle.std.proofs.Common.{◌≡◌, ℕ, Bool, ap, refl, ◌∙◌, subst, sym}
use Rattle.std.specs.Prelude.{None, Option, Some}
use Rattle.vms_calls.specs.Common.{ByNormal, ByPressure, CpuId, PlaceId, facts_of}
use Rattle.vms_calls.specs.PageCalls.{owns_cpu}
use Rattle.vms_calls.specs.declared.page_calls.PageAnswer.TheVariants as answer
use Rattle.vms_calls.specs.declared.page_calls.PageCall.{PageCall}
use Rattle.vms_calls.specs.declared.page_calls.PageCall.TheVariants as page
use Rattle.vms_plans.specs.Common.{answering, fold_plan, node_plan, plan_of}
use Rattle.vms_cursors.specs.Calls.{IsCallWithin, has_cursor, owns_none}
use Rattle.vms_cursors.specs.Cursors.{IsSame}
use Rattle.vms_cursors.specs.Folds.{fold_at}
use Rattle.vms_cursors.specs.declared.fold_positions.FoldPosition.TheVariants.{Places}
use Rattle.vms_cursors.specs.declared.folds.Fold.{Fold}
use Rattle.vms_cursors.specs.declared.rating_calls.RatingCall.TheVariants.{Normal, Pressure}
use Rattle.vms_cursors.proofs.CursorBegins.{burial-begins, burial-within, rating-begins, rating-within}
use Rattle.vms_cursors.proofs.CursorBegins.{turn_call-begins, turn_call-within}
use Rattle.vms_cursors.proofs.RatingBegins.{normal-begins, pressure-begins}
use Rattle.vms_cursors.proofs.FoldPlans.{fold-begins}
use Rattle.vms_cursors.proofs.Goes.{same-runs}
use Rattle.vms_cursors.proofs.cursors.Cursor.begin.Goals as goal

pub returns-in-Fold-clause-begins : goal.returns-in-Fold-clause-begins
returns-in-Fold-clause-begins g c = λ header base p h.
    let shape = header.layout in
    let taken = c.nothing.result in
    let cpu : CpuId = c.in-Fold.cpu in
    let whole : Bool → Fold = λ own. record { cpu = cpu; is_own = own } in
    let own = owns_cpu c.args.owner cpu in
    let left = answering (λ made. answer.Done) (fold_at shape (whole c.owns_cpu.result) (Places taken 0)) in
    subst (λ (call : PageCall). IsSame
    (plan_of header base g.R.ThresholdRules.pressure g.R.ThresholdRules.normal call c.args.owner p h) left)
    (sym c.in-Fold.is)
    (same-runs (answering (λ made. answer.Done) (fold_plan shape own cpu)) left
    (ap (answering (λ made. answer.Done))
    (fold-begins shape taken c.nothing.ensures.groups c.nothing.ensures.totals own cpu
    ∙ ap (λ (b : Bool). fold_at shape (whole b) (Places taken 0)) (sym c.owns_cpu.ensures))))

pub returns-in-SetPressure-clause-begins : goal.returns-in-SetPressure-clause-begins
returns-in-SetPressure-clause-begins g c = λ header base p h.
    let P = g.R.ThresholdRules.pressure in
    let N = g.R.ThresholdRules.normal in
    let facts = facts_of header base in
    rating-begins (Pressure c.in-SetPressure.node) header base p P N h c.args.call
    (page.SetPressure c.in-SetPressure.node) c.in-SetPressure.is
    (node_plan facts p (ByPressure P N) c.in-SetPressure.node h) refl
    (λ online. pressure-begins facts p P N h online c.in-SetPressure.node)
    c.args.owner c.begin_rating.result c.begin_rating.ensures.known c.begin_rating.ensures.begins

pub returns-in-SetPressure-clause-known : goal.returns-in-SetPressure-clause-known
returns-in-SetPressure-clause-known g c = c.begin_rating.ensures.known ∙ known-SetPressure c.args.owner
    c.in-SetPressure.node
    ∙ ap (has_cursor c.args.owner) (sym c.in-SetPressure.is)
  where
    known-SetPressure : (owner : Option CpuId) (n : PlaceId) → owns_none owner ≡ has_cursor owner (page.SetPressure n)
    known-SetPressure None n = refl
    known-SetPressure (Some own) n = refl

pub returns-in-SetPressure-clause-within : goal.returns-in-SetPressure-clause-within
returns-in-SetPressure-clause-within g c = λ shape within. rating-within (Pressure c.in-SetPressure.node) shape
    (subst (IsCallWithin shape) c.in-SetPressure.is within) c.begin_rating.result c.begin_rating.ensures.begins

pub returns-in-SetNormal-clause-begins : goal.returns-in-SetNormal-clause-begins
returns-in-SetNormal-clause-begins g c = λ header base p h.
    let P = g.R.ThresholdRules.pressure in
    let N = g.R.ThresholdRules.normal in
    let facts = facts_of header base in
    rating-begins (Normal c.in-SetNormal.node) header base p P N h c.args.call (page.SetNormal c.in-SetNormal.node)
    c.in-SetNormal.is
    (node_plan facts p (ByNormal N) c.in-SetNormal.node h) refl
    (λ online. normal-begins facts p P N h online c.in-SetNormal.node)
    c.args.owner c.begin_rating-in-SetNormal.result c.begin_rating-in-SetNormal.ensures.known
    c.begin_rating-in-SetNormal.ensures.begins

pub returns-in-SetNormal-clause-known : goal.returns-in-SetNormal-clause-known
returns-in-SetNormal-clause-known g c = c.begin_rating-in-SetNormal.ensures.known ∙ known-SetNormal c.args.owner
    c.in-SetNormal.node
    ∙ ap (has_cursor c.args.owner) (sym c.in-SetNormal.is)
  where
    known-SetNormal : (owner : Option CpuId) (n : PlaceId) → owns_none owner ≡ has_cursor owner (page.SetNormal n)
    known-SetNormal None n = refl
    known-SetNormal (Some own) n = refl

pub returns-in-SetNormal-clause-within : goal.returns-in-SetNormal-clause-within
returns-in-SetNormal-clause-within g c = λ shape within. rating-within (Normal c.in-SetNormal.node) shape
    (subst (IsCallWithin shape) c.in-SetNormal.is within) c.begin_rating-in-SetNormal.result
    c.begin_rating-in-SetNormal.ensures.begins

pub returns-in-Bury-clause-begins : goal.returns-in-Bury-clause-begins
returns-in-Bury-clause-begins g c = λ header base p h.
    burial-begins c.in-Bury.cpu header base p g.R.ThresholdRules.pressure g.R.ThresholdRules.normal h c.args.call
    c.in-Bury.is c.args.owner c.begin_burial.result c.begin_burial.ensures.known c.begin_burial.ensures.begins

pub returns-in-Bury-clause-known : goal.returns-in-Bury-clause-known
returns-in-Bury-clause-known g c = c.begin_burial.ensures.known ∙ known-Bury c.args.owner c.in-Bury.cpu
    ∙ ap (has_cursor c.args.owner) (sym c.in-Bury.is)
  where
    known-Bury : (owner : Option CpuId) (cpu : CpuId) → owns_none owner ≡ has_cursor owner (page.Bury cpu)
    known-Bury None cpu = refl
    known-Bury (Some own) cpu = refl

pub returns-in-Bury-clause-within : goal.returns-in-Bury-clause-within
returns-in-Bury-clause-within g c = λ shape within.
    burial-within c.in-Bury.cpu shape c.begin_burial.result c.begin_burial.ensures.begins

pub returns-in-Turn-clause-begins : goal.returns-in-Turn-clause-begins
returns-in-Turn-clause-begins g c = λ header base p h.
    turn_call-begins (record { node = c.in-Turn.node; order = c.in-Turn.order; most = c.in-Turn.most }) header base p
    g.R.ThresholdRules.pressure g.R.ThresholdRules.normal h c.args.call c.in-Turn.is c.args.owner c.begin_turn.result
    c.begin_turn.ensures.known c.begin_turn.ensures.begins

pub returns-in-Turn-clause-known : goal.returns-in-Turn-clause-known
returns-in-Turn-clause-known g c = c.begin_turn.ensures.known
    ∙ known-Turn c.args.owner c.in-Turn.node c.in-Turn.order c.in-Turn.most
    ∙ ap (has_cursor c.args.owner) (sym c.in-Turn.is)
  where
    known-Turn : (owner : Option CpuId) (n : PlaceId) (order most : ℕ)
        → owns_none owner ≡ has_cursor owner (page.Turn n order most)
    known-Turn None n order most = refl
    known-Turn (Some own) n order most = refl

pub returns-in-Turn-clause-within : goal.returns-in-Turn-clause-within
returns-in-Turn-clause-within g c = λ shape within.
    turn_call-within (record { node = c.in-Turn.node; order = c.in-Turn.order; most = c.in-Turn.most }) shape
    (subst (IsCallWithin shape) c.in-Turn.is within) c.begin_turn.result c.begin_turn.ensures.begins
