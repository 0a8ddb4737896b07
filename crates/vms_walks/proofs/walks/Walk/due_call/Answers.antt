-- The call under way, once the rules have answered, or the next one.
use Rattle.std.proofs.Common.{sym, subst, ◌∙◌}
use Rattle.std.specs.Prelude.{IfSome, Option}
use Rattle.vms_cursors.specs.Calls.{IsWithin}
use Rattle.vms_cursors.specs.declared.cursors.Cursor.{Cursor}
use Rattle.vms_world.specs.Common.{own}
use Rattle.vms_own_acts.proofs.OwnRows.{acts-of_whole_row}
use Rattle.vms_walks.specs.Walks.{IsOfLane, StandsBy}
use Rattle.vms_walks.proofs.OpenedCalls.{stands-same}
use Rattle.vms_walks.proofs.walks.Walk.due_call.Goals as goal

pub settle-requires-clause-within : goal.settle-requires-clause-within
settle-requires-clause-within g c =
    (subst (λ (u : Option Cursor). IfSome u (λ cursor. IsOfLane c.args.lane cursor
    × IsWithin c.args.header.now.layout cursor)) (sym c.under_way.ensures ∙ c.in-Some.is) c.requires.within.under_way).1

pub due_call-requires-clause-of_lane : goal.due_call-requires-clause-of_lane
due_call-requires-clause-of_lane g c =
    c.settle.ensures.of_lane c.args.lane
    (subst (λ (u : Option Cursor). IfSome u (λ cursor. IsOfLane c.args.lane cursor
    × IsWithin c.args.header.now.layout cursor)) (sym c.under_way.ensures ∙ c.in-Some.is) c.requires.within.under_way).0

pub returns-in-Some-clause-some : goal.returns-in-Some-clause-some
returns-in-Some-clause-some g c = λ base p h is keeps stands.
    let P = g.R.ThresholdRules.pressure in
    let N = g.R.ThresholdRules.normal in
    let of = (subst (λ (u : Option Cursor). IfSome u (λ cursor. IsOfLane c.args.lane cursor
    × IsWithin c.args.header.now.layout cursor)) (sym c.under_way.ensures ∙ c.in-Some.is)
    c.requires.within.under_way).0 in
    c.due_call.ensures.some base p h is keeps
    (stands-same c.args.header.now base P N c.args.lane p c.args.acts.now c.args.self.now.begun c.in-Some.cursor
    c.settle.new.cursor (own h p) (c.settle.ensures.same base c.args.lane p h is keeps of)
    (subst (λ (u : Option Cursor). StandsBy c.args.header.now base P N c.args.lane p c.args.acts.now
    c.args.self.now.begun u (own h p)) (sym c.under_way.ensures ∙ c.in-Some.is) stands))

pub returns-in-Some-clause-none : goal.returns-in-Some-clause-none
returns-in-Some-clause-none g c = λ base p h is keeps stands none.
    let P = g.R.ThresholdRules.pressure in
    let N = g.R.ThresholdRules.normal in
    let of = (subst (λ (u : Option Cursor). IfSome u (λ cursor. IsOfLane c.args.lane cursor
    × IsWithin c.args.header.now.layout cursor)) (sym c.under_way.ensures ∙ c.in-Some.is)
    c.requires.within.under_way).0 in
    acts-of_whole_row c.args.header.now base P N c.args.lane p c.args.acts.now h is
    (c.due_call.ensures.none base p h is keeps
    (stands-same c.args.header.now base P N c.args.lane p c.args.acts.now c.args.self.now.begun c.in-Some.cursor
    c.settle.new.cursor (own h p) (c.settle.ensures.same base c.args.lane p h is keeps of)
    (subst (λ (u : Option Cursor). StandsBy c.args.header.now base P N c.args.lane p c.args.acts.now
    c.args.self.now.begun u (own h p)) (sym c.under_way.ensures ∙ c.in-Some.is) stands)) none)

pub returns-in-None-clause-some : goal.returns-in-None-clause-some
returns-in-None-clause-some g c = λ base p h is keeps stands.
    let P = g.R.ThresholdRules.pressure in
    let N = g.R.ThresholdRules.normal in
    c.next_call.ensures.some base p h is keeps
    (subst (λ (u : Option Cursor). StandsBy c.args.header.now base P N c.args.lane p c.args.acts.now
    c.args.self.now.begun u (own h p)) (sym c.under_way.ensures ∙ c.in-None.is) stands)

pub returns-in-None-clause-none : goal.returns-in-None-clause-none
returns-in-None-clause-none g c = λ base p h is keeps stands none.
    let P = g.R.ThresholdRules.pressure in
    let N = g.R.ThresholdRules.normal in
    acts-of_whole_row c.args.header.now base P N c.args.lane p c.args.acts.now h is
    (c.next_call.ensures.none base p h is keeps
    (subst (λ (u : Option Cursor). StandsBy c.args.header.now base P N c.args.lane p c.args.acts.now
    c.args.self.now.begun u (own h p)) (sym c.under_way.ensures ∙ c.in-None.is) stands) none)
