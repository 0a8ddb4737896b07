-- The step that is due in the call; where no call is under way all acts are made.
use Rattle.std.proofs.Common.{refl}
use Rattle.vms_world.specs.Common.{own}
use Rattle.vms_cursors.specs.Calls.{cursor_at}
use Rattle.vms_own_acts.proofs.OwnRows.{row-of_acts}
use Rattle.vms_walks.proofs.WalkAlong.{functions-answer}
use Rattle.vms_walks.proofs.WalkSteps.{not-made, step-on}
use Rattle.vms_walks.proofs.walks.Walk.due.Goals as goal

pub returns-in-Some-clause-due : goal.returns-in-Some-clause-due
returns-in-Some-clause-due g c = λ base p h is keeps stands step is' along.
    let P = g.R.ThresholdRules.pressure in
    let N = g.R.ThresholdRules.normal in
    let is_p = g.met.R.RuleFunctions.pressure_is in
    let is_n = g.met.R.RuleFunctions.normal_is in
    let opened = c.in-Some.ensures.some base p h is keeps stands in
    let run = step-on c.args.header.now base P N c.args.lane p c.plans_are_the_calls.ensures is_p is_n
    c.args.acts.now step h is' along c.in-Some.call.begun opened.stands.0 opened.stands.1
    (cursor_at c.args.header.now base p P N (own h p) c.in-Some.call.cursor) opened.stands.2 opened.stands.3
    (c.cursors_can_be_completed.ensures.completed c.args.header.now base p (own h p) c.in-Some.call.cursor
    (functions-answer c.args.header.now P N is_p is_n)) opened.due.1 in
    opened.due.0 step run.0 run.1 run.2

pub returns-in-Some-clause-done : goal.returns-in-Some-clause-done
returns-in-Some-clause-done g c = λ base p h is keeps stands.
    let P = g.R.ThresholdRules.pressure in
    let N = g.R.ThresholdRules.normal in
    let is_p = g.met.R.RuleFunctions.pressure_is in
    let is_n = g.met.R.RuleFunctions.normal_is in
    let opened = c.in-Some.ensures.some base p h is keeps stands in (
      (λ none. absurd cc),
      (λ made. absurd (not-made c.args.header.now base P N c.args.lane p c.plans_are_the_calls.ensures is_p is_n
          c.args.acts.now (own h p) c.in-Some.call.begun opened.stands.0 opened.stands.1
          (cursor_at c.args.header.now base p P N (own h p) c.in-Some.call.cursor) opened.stands.2 opened.stands.3
          (c.cursors_can_be_completed.ensures.completed c.args.header.now base p (own h p) c.in-Some.call.cursor
          (functions-answer c.args.header.now P N is_p is_n)) opened.due.1
          (row-of_acts c.args.header.now base P N c.args.lane p c.args.acts.now h is made))),
    )

pub returns-in-None-clause-done : goal.returns-in-None-clause-done
returns-in-None-clause-done g c = λ base p h is keeps stands. (
  (λ none. c.in-None.ensures.none base p h is keeps stands refl),
  (λ made. refl),
)
