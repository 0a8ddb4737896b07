-- There is a cursor for the call of each act, and it asks rules where the call does.
use Rattle.std.proofs.Common.{◌≡◌, true, true≢false, refl, sym, ap, subst, ◌∙◌, arith, rules}
use Rattle.std.proofs.lemmas.Grind.{common_steps}
use Rattle.std.specs.Prelude.{None, Option, Some, is_some}
use Rattle.vms_world.specs.Common.{CpuId}
use Rattle.vms_plans.specs.Common.{plan_of}
use Rattle.vms_cursors.specs.Calls.{cursor_at, has_cursor}
use Rattle.vms_cursors.specs.Cursors.{IsSame}
use Rattle.vms_cursors.specs.declared.cursors.Cursor.{Cursor}
use Rattle.vms_walks.proofs.Callings.{calls-has_cursor, of-lane}
use Rattle.vms_walks.proofs.calling.begin_call.Goals as goal

pub returns-clause-same : goal.returns-clause-same
returns-clause-same g c = λ header base p h.
    let P = g.R.ThresholdRules.pressure in
    let N = g.R.ThresholdRules.normal in
    subst (λ (owner : Option CpuId). IsSame (plan_of header base P N c.args.call owner p h)
    (cursor_at header base p P N h c.in-Some.cursor)) c.owner_of.ensures (c.in-Some.ensures.begins header base p h)

pub returns-clause-of_lane : goal.returns-clause-of_lane
returns-clause-of_lane g c =
    of-lane c.args.lane c.requires.act.0 c.args.call c.in-Some.cursor c.requires.act.1 c.in-Some.ensures.kind

some-value : (o : Option Cursor) → is_some o ≡ true → (cursor : Cursor) × (o ≡ Some cursor)
some-value None is = absurd (true≢false (sym is))
some-value (Some cursor) is = (cursor, refl)

pub unreachable-requires : goal.unreachable-requires
unreachable-requires g c =
    let known : is_some c.begin.result ≡ true = c.begin.ensures.known
    ∙ ap (λ (owner : Option CpuId). has_cursor owner c.args.call) c.owner_of.ensures
    ∙ calls-has_cursor c.args.lane c.requires.act.0 c.args.call c.requires.act.1 in
    let found = some-value c.begin.result known in
    let value : c.begin.result ≡ Some found.0 = found.1 in
    let not = c.in_default.not-Some in
    first_of (cc, search (rules, known, value), grind (arith, common_steps))
