-- The acts before the next call make none, and its cursor goes on in place.
use Rattle.std.proofs.Common.{◌+◌, arith}
use Rattle.vms_world.specs.Common.{own}
use Rattle.vms_walks.specs.Calling.{act_at}
use Rattle.vms_walks.proofs.Callings.{of-lane_as, page-act}
use Rattle.vms_walks.proofs.OpenedCalls.{opens-next}
use Rattle.vms_walks.proofs.StepsOn.{steps-on}
use Rattle.vms_walks.proofs.walks.Walk.go_to_next.Goals as goal

pub begin_call-cursor-requires-clause-act : goal.begin_call-cursor-requires-clause-act
begin_call-cursor-requires-clause-act g c = (act_at c.args.acts.now c.in-Some.at, c.in-Some.ensures.some.calls)

pub begin_call-cursor-requires-clause-affordable : goal.begin_call-cursor-requires-clause-affordable
begin_call-cursor-requires-clause-affordable g c =
    (page-act c.args.header.now.layout c.args.lane c.args.acts.now c.in-Some.at c.in-Some.call c.requires.acts
    c.in-Some.ensures.some.below c.in-Some.ensures.some.calls).0

pub go_on-requires-clause-within : goal.go_on-requires-clause-within
go_on-requires-clause-within g c =
    c.begin_call-cursor.ensures.within c.args.header.now.layout
    (page-act c.args.header.now.layout c.args.lane c.args.acts.now c.in-Some.at c.in-Some.call c.requires.acts
    c.in-Some.ensures.some.below c.in-Some.ensures.some.calls).1

pub returns-clause-goes : goal.returns-clause-goes
returns-clause-goes g c = λ yes base p h stands.
    let header = c.args.header.now in
    let P = g.R.ThresholdRules.pressure in
    let N = g.R.ThresholdRules.normal in
    let acts = c.args.acts.now in
    let first = c.begin_call-cursor.result in
    let row = c.is_between_calls.ensures c.if-not-is_between_calls.false base c.args.lane p acts h stands in
    let opened = opens-next header base P N c.args.lane p acts c.plans_are_the_calls.ensures
    c.requires.header.is_layout c.args.self.now.begun c.in-Some.at c.in-Some.call first first (own h p)
    c.in-Some.ensures.some row (c.begin_call-cursor.ensures.same header base p (own h p))
    (λ steps told. ((λ run. run), (λ run. run))) in
    steps-on header base P N c.args.lane p c.plans_are_the_calls.ensures
    g.met.R.RuleFunctions.pressure_is g.met.R.RuleFunctions.normal_is acts (c.in-Some.at + 1) first
    c.go_on.new.cursor c.args.step.now h opened.0 (c.go_on.ensures.goes c.if-not-go_on.false base p (own h p))

pub returns-clause-within : goal.returns-clause-within
returns-clause-within g c = record {
  begun = omega (arith, c.in-Some.ensures.some.below);
  under_way = (
    of-lane_as c.args.lane c.begin_call-cursor.result c.go_on.new.cursor c.go_on.ensures.kind
        c.begin_call-cursor.ensures.of_lane,
    c.go_on.ensures.within,
  );
}
