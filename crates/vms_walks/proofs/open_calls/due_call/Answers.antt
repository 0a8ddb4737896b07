-- A call at which a step is due hasn't ended; one at which none is has, and so the next one is due.
use Rattle.std.proofs.Common.{refl}
use Rattle.vms_world.specs.Common.{own}
use Rattle.vms_cursors.specs.Calls.{answer_of}
use Rattle.vms_walks.proofs.OpenedCalls.{row-ended}
use Rattle.vms_walks.proofs.open_calls.due_call.Goals as goal

pub returns-in-Some-clause-some : goal.returns-in-Some-clause-some
returns-in-Some-clause-some g c = λ base p h is keeps stands.
    record { stands = stands; due = c.in-Some.ensures.due base p (own h p) }

pub returns-in-None-clause-some : goal.returns-in-None-clause-some
returns-in-None-clause-some g c = λ base p h is keeps stands.
    let P = g.R.ThresholdRules.pressure in
    let N = g.R.ThresholdRules.normal in
    c.next_call.ensures.some base p h is keeps
    (row-ended c.args.header.now base P N c.args.lane p c.args.acts.now c.args.begun c.args.cursor (own h p)
    (answer_of c.args.header.now c.args.cursor) stands (c.in-None.ensures.ended base p (own h p) refl))

pub returns-in-None-clause-none : goal.returns-in-None-clause-none
returns-in-None-clause-none g c = λ base p h is keeps stands none.
    let P = g.R.ThresholdRules.pressure in
    let N = g.R.ThresholdRules.normal in
    c.next_call.ensures.none base p h is keeps
    (row-ended c.args.header.now base P N c.args.lane p c.args.acts.now c.args.begun c.args.cursor (own h p)
    (answer_of c.args.header.now c.args.cursor) stands (c.in-None.ensures.ended base p (own h p) refl)) none
