-- What the call whose step is due makes of the step; after all acts no step comes.
use Rattle.std.proofs.Common.{[], ◌∷◌, refl}
use Rattle.vms_own_acts.proofs.OwnRows.{for-before, row-of_acts}
use Rattle.vms_walks.proofs.WalkSteps.{nothing-after}
use Rattle.vms_walks.proofs.walks.Walk.next_of_due.Goals as goal

pub next-requires-clause-within : goal.next-requires-clause-within
next-requires-clause-within g c = (c.args.lane, c.args.acts.now, c.in-Some.ensures.within)

pub returns-in-Some-clause-goes : goal.returns-in-Some-clause-goes
returns-in-Some-clause-goes g c = λ base p h is keeps stands.
    let before = for-before c.args.header.now base g.R.ThresholdRules.pressure g.R.ThresholdRules.normal c.args.lane p
    (record { caller = p; step = c.args.step } ∷ []) h is in
    c.next.ensures.goes base c.args.lane p c.args.acts.now h is (c.in-Some.ensures.some base p h before keeps stands)

pub returns-in-Some-clause-stops : goal.returns-in-Some-clause-stops
returns-in-Some-clause-stops g c = λ base p h is keeps stands.
    let before = for-before c.args.header.now base g.R.ThresholdRules.pressure g.R.ThresholdRules.normal c.args.lane p
    (record { caller = p; step = c.args.step } ∷ []) h is in
    c.next.ensures.stops base c.args.lane p c.args.acts.now h is (c.in-Some.ensures.some base p h before keeps stands)

pub returns-in-Some-clause-within : goal.returns-in-Some-clause-within
returns-in-Some-clause-within g c = c.next.ensures.within c.args.lane c.args.acts.now c.in-Some.ensures.within

pub returns-in-None-clause-stops : goal.returns-in-None-clause-stops
returns-in-None-clause-stops g c = λ base p h is keeps stands none along.
    let P = g.R.ThresholdRules.pressure in
    let N = g.R.ThresholdRules.normal in
    let before = for-before c.args.header.now base P N c.args.lane p
    (record { caller = p; step = c.args.step } ∷ []) h is in
    nothing-after c.args.header.now base P N c.args.lane p c.plans_are_the_calls.ensures
    g.met.R.RuleFunctions.pressure_is g.met.R.RuleFunctions.normal_is c.args.acts.now c.args.step h is along
    (row-of_acts c.args.header.now base P N c.args.lane p c.args.acts.now h before
    (c.in-None.ensures.none base p h before keeps stands refl))
