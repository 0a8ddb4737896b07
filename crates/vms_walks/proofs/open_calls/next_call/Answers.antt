-- The acts before the call make none, and the call begins.
use Rattle.std.proofs.Common.{[], length, refl, subst, arith}
use Rattle.std.proofs.Math.Seq.{take-length}
use Rattle.vms_world.specs.Common.{PageSteps, own}
use Rattle.vms_cursors.specs.Calls.{answer_of}
use Rattle.vms_own_acts.specs.Common.{MakesInRow}
use Rattle.vms_walks.specs.Calling.{act_at}
use Rattle.vms_walks.proofs.Callings.{page-act, rows-passed}
use Rattle.vms_walks.proofs.OpenedCalls.{opens-next}
use Rattle.vms_walks.proofs.open_calls.next_call.Goals as goal

pub begin_call-cursor-requires-clause-act : goal.begin_call-cursor-requires-clause-act
begin_call-cursor-requires-clause-act g c = (act_at c.args.acts.now c.in-Some.at, c.in-Some.ensures.some.calls)

pub begin_call-cursor-requires-clause-affordable : goal.begin_call-cursor-requires-clause-affordable
begin_call-cursor-requires-clause-affordable g c =
    (page-act c.args.header.now.layout c.args.lane c.args.acts.now c.in-Some.at c.in-Some.call c.requires.acts
    c.in-Some.ensures.some.below c.in-Some.ensures.some.calls).0

pub settle-requires-clause-within : goal.settle-requires-clause-within
settle-requires-clause-within g c =
    c.begin_call-cursor.ensures.within c.args.header.now.layout
    (page-act c.args.header.now.layout c.args.lane c.args.acts.now c.in-Some.at c.in-Some.call c.requires.acts
    c.in-Some.ensures.some.below c.in-Some.ensures.some.calls).1

pub returns-in-Some-due-clause-some : goal.returns-in-Some-due-clause-some
returns-in-Some-due-clause-some g c = λ base p h is keeps row.
    let opened = opens-next c.args.header.now base g.R.ThresholdRules.pressure g.R.ThresholdRules.normal c.args.lane p
    c.args.acts.now c.plans_are_the_calls.ensures c.requires.header.is_layout c.args.from c.in-Some.at c.in-Some.call
    c.begin_call-cursor.result c.settle.new.cursor (own h p) c.in-Some.ensures.some row
    (c.begin_call-cursor.ensures.same c.args.header.now base p (own h p))
    (c.settle.ensures.same base c.args.lane p h is keeps c.begin_call-cursor.ensures.of_lane) in
    record { stands = opened.0; due = c.in-Some-due.ensures.due base p (own h p) }

pub returns-in-Some-due-clause-within : goal.returns-in-Some-due-clause-within
returns-in-Some-due-clause-within g c = record {
  begun = omega (arith, c.in-Some.ensures.some.below);
  of_lane = c.settle.ensures.of_lane c.args.lane c.begin_call-cursor.ensures.of_lane;
  within = c.settle.ensures.within;
  ready = c.settle.ensures.ready;
}

pub returns-in-None-due-clause-some : goal.returns-in-None-due-clause-some
returns-in-None-due-clause-some g c = λ base p h is keeps row.
    let opened = opens-next c.args.header.now base g.R.ThresholdRules.pressure g.R.ThresholdRules.normal c.args.lane p
    c.args.acts.now c.plans_are_the_calls.ensures c.requires.header.is_layout c.args.from c.in-Some.at c.in-Some.call
    c.begin_call-cursor.result c.settle.new.cursor (own h p) c.in-Some.ensures.some row
    (c.begin_call-cursor.ensures.same c.args.header.now base p (own h p))
    (c.settle.ensures.same base c.args.lane p h is keeps c.begin_call-cursor.ensures.of_lane) in
    absurd (opened.1 (answer_of c.args.header.now c.settle.new.cursor)
    (c.in-None-due.ensures.ended base p (own h p) refl))

pub returns-in-None-due-clause-none : goal.returns-in-None-due-clause-none
returns-in-None-due-clause-none g c = λ base p h is keeps row none.
    let opened = opens-next c.args.header.now base g.R.ThresholdRules.pressure g.R.ThresholdRules.normal c.args.lane p
    c.args.acts.now c.plans_are_the_calls.ensures c.requires.header.is_layout c.args.from c.in-Some.at c.in-Some.call
    c.begin_call-cursor.result c.settle.new.cursor (own h p) c.in-Some.ensures.some row
    (c.begin_call-cursor.ensures.same c.args.header.now base p (own h p))
    (c.settle.ensures.same base c.args.lane p h is keeps c.begin_call-cursor.ensures.of_lane) in
    absurd (opened.1 (answer_of c.args.header.now c.settle.new.cursor)
    (c.in-None-due.ensures.ended base p (own h p) refl))

pub returns-in-None-clause-none : goal.returns-in-None-clause-none
returns-in-None-clause-none g c = λ base p h is keeps row none.
    let P = g.R.ThresholdRules.pressure in
    let N = g.R.ThresholdRules.normal in
    subst (λ made. MakesInRow (PageSteps c.args.header.now base P N c.args.lane p) p made [] (own h p))
    (take-length c.args.acts.now)
    (rows-passed c.args.header.now base P N c.args.lane p c.args.acts.now (own h p) c.args.from
    (length c.args.acts.now) c.requires.from (omega arith) (c.in-None.ensures.none none) row)
