-- The cursor of the call under way goes on in place.
use Rattle.std.proofs.Common.{◌≡◌, ◌∷◌, Bool, Option, Some, None, if◌then◌else◌, ap, sym, subst}
use Rattle.vms_cursors.specs.declared.cursors.Cursor.{Cursor}
use Rattle.vms_world.specs.Common.{own}
use Rattle.vms_walks.specs.Walks.{StandsBy}
use Rattle.vms_walks.proofs.StepsOn.{steps-on}
use Rattle.vms_walks.proofs.walks.Walk.go_under_way.Goals as goal

pub returns-clause-goes : goal.returns-clause-goes
returns-clause-goes g c = λ yes base p h stands.
    let P = g.R.ThresholdRules.pressure in
    let N = g.R.ThresholdRules.normal in
    let walk = c.args.self.now in
    let stepped : (cursor : Cursor) → (if walk.has_stepped then Some cursor else None) ≡ Some cursor =
    λ cursor. ap (λ (b : Bool). if b then Some cursor else None) c.if-not-self.false in
    subst (λ (u : Option Cursor). StandsBy c.args.header.now base P N c.args.lane p c.args.acts.now walk.begun u
    (own (record { caller = p; step = c.args.step.now } ∷ h) p)) (sym (stepped c.go_on.new.cursor))
    (steps-on c.args.header.now base P N c.args.lane p c.plans_are_the_calls.ensures
    g.met.R.RuleFunctions.pressure_is g.met.R.RuleFunctions.normal_is c.args.acts.now walk.begun walk.cursor
    c.go_on.new.cursor c.args.step.now h
    (subst (λ (u : Option Cursor). StandsBy c.args.header.now base P N c.args.lane p c.args.acts.now walk.begun u
    (own h p)) (stepped walk.cursor) stands) (c.go_on.ensures.goes yes base p (own h p)))
