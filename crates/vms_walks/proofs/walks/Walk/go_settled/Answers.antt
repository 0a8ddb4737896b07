-- The cursor is the same once the rules answered, and goes on.
use Rattle.std.proofs.Common.{◌≡◌, ◌∷◌, [], Bool, Option, Some, None, if◌then◌else◌, ap, sym, subst}
use Rattle.std.specs.Prelude.{IfSome}
use Rattle.vms_cursors.specs.Calls.{IsWithin}
use Rattle.vms_cursors.specs.declared.cursors.Cursor.{Cursor}
use Rattle.vms_world.specs.Common.{own}
use Rattle.vms_own_acts.proofs.OwnRows.{for-before}
use Rattle.vms_walks.specs.Walks.{IsOfLane, StandsBy}
use Rattle.vms_walks.proofs.OpenedCalls.{stands-same}
use Rattle.vms_walks.proofs.StepsOn.{steps-on}
use Rattle.vms_walks.proofs.walks.Walk.go_settled.Goals as goal

pub settle-requires-clause-within : goal.settle-requires-clause-within
settle-requires-clause-within g c =
    let walk = c.args.self.now in
    (subst (λ (b : Bool). IfSome (if b then Some walk.cursor else None)
    (λ cursor. IsOfLane c.args.lane cursor × IsWithin c.args.header.now.layout cursor)) c.if-not-self.false
    c.requires.within.under_way).1

pub returns-in-Some-clause-goes : goal.returns-in-Some-clause-goes
returns-in-Some-clause-goes g c = λ yes base p h is keeps stands.
    let header = c.args.header.now in
    let P = g.R.ThresholdRules.pressure in
    let N = g.R.ThresholdRules.normal in
    let walk = c.args.self.now in
    let acts = c.args.acts.now in
    let step = c.args.step.now in
    let before = for-before header base P N c.args.lane p (record { caller = p; step = step } ∷ []) h is in
    let of = (subst (λ (b : Bool). IfSome (if b then Some walk.cursor else None)
    (λ cursor. IsOfLane c.args.lane cursor × IsWithin header.layout cursor)) c.if-not-self.false
    c.requires.within.under_way).0 in
    let stepped : (cursor : Cursor) → (if walk.has_stepped then Some cursor else None) ≡ Some cursor =
    λ cursor. ap (λ (b : Bool). if b then Some cursor else None) c.if-not-self.false in
    subst (λ (u : Option Cursor). StandsBy header base P N c.args.lane p acts walk.begun u
    (own (record { caller = p; step = step } ∷ h) p)) (sym (stepped c.in-Some.later))
    (steps-on header base P N c.args.lane p c.plans_are_the_calls.ensures
    g.met.R.RuleFunctions.pressure_is g.met.R.RuleFunctions.normal_is acts walk.begun c.settle.new.cursor
    c.in-Some.later step h
    (stands-same header base P N c.args.lane p acts walk.begun walk.cursor c.settle.new.cursor (own h p)
    (c.settle.ensures.same base c.args.lane p h before keeps of)
    (subst (λ (u : Option Cursor). StandsBy header base P N c.args.lane p acts walk.begun u (own h p))
    (stepped walk.cursor) stands)) (c.in-Some.ensures.goes base p (own h p)))
