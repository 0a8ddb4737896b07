-- The cursor of the call goes on, and what it refuses nothing accepts.
use Rattle.std.proofs.Common.{refl}
use Rattle.vms_cursors.specs.Calls.{cursor_at}
use Rattle.vms_world.specs.Common.{own}
use Rattle.vms_walks.proofs.Callings.{of-lane_as}
use Rattle.vms_walks.proofs.WalkAlong.{functions-answer}
use Rattle.vms_walks.proofs.WalkSteps.{step-on}
use Rattle.vms_walks.proofs.StepsOn.{steps-on}
use Rattle.vms_walks.proofs.open_calls.DueCall.next.Goals as goal

pub next-requires-clause-within : goal.next-requires-clause-within
next-requires-clause-within g c = c.requires.within.2.within

pub next-requires-clause-ready : goal.next-requires-clause-ready
next-requires-clause-ready g c = c.requires.within.2.ready

pub returns-in-Some-clause-goes : goal.returns-in-Some-clause-goes
returns-in-Some-clause-goes g c = λ base lane p acts h is due.
    steps-on c.args.header.now base g.R.ThresholdRules.pressure g.R.ThresholdRules.normal lane p
    c.plans_are_the_calls.ensures g.met.R.RuleFunctions.pressure_is g.met.R.RuleFunctions.normal_is acts
    c.args.self.now.begun c.args.self.now.cursor c.in-Some.cursor c.args.step h due.stands
    (c.in-Some.ensures.goes base p (own h p))

pub returns-in-Some-clause-within : goal.returns-in-Some-clause-within
returns-in-Some-clause-within g c = λ lane acts is. record {
  begun = is.begun;
  under_way = (
    of-lane_as lane c.args.self.now.cursor c.in-Some.cursor c.in-Some.ensures.kind is.of_lane,
    c.in-Some.ensures.within,
  );
}

pub returns-in-None-clause-stops : goal.returns-in-None-clause-stops
returns-in-None-clause-stops g c = λ base lane p acts h is due none along.
    let P = g.R.ThresholdRules.pressure in
    let N = g.R.ThresholdRules.normal in
    let is_p = g.met.R.RuleFunctions.pressure_is in
    let is_n = g.met.R.RuleFunctions.normal_is in
    let run = step-on c.args.header.now base P N lane p c.plans_are_the_calls.ensures is_p is_n
    acts c.args.step h is along c.args.self.now.begun due.stands.0 due.stands.1
    (cursor_at c.args.header.now base p P N (own h p) c.args.self.now.cursor) due.stands.2 due.stands.3
    (c.cursors_can_be_completed.ensures.completed c.args.header.now base p (own h p) c.args.self.now.cursor
    (functions-answer c.args.header.now P N is_p is_n)) due.due.1 in
    c.in-None.ensures.stops base p (own h p) refl run.0 run.1 run.2
