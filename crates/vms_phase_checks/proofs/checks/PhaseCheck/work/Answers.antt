-- The pass in the slot goes along its lane with the step, or it doesn't.
use Rattle.std.proofs.Common.{◌≡◌, ap, refl, ◌∙◌, arith}
use Rattle.std.proofs.lemmas.Bool.{MatchBool-at_false, MatchBool-at_true}
use Rattle.vms_registers.specs.Slots.{owner_of}
use Rattle.vms_phase_checks.specs.Common.{lane_for, lane_in}
use Rattle.vms_phase_checks.proofs.CheckedSlots.{in-slot, walk-in}
use Rattle.vms_phase_checks.proofs.Shown.{shown-next}
use Rattle.vms_phase_checks.proofs.WorksTaken.{answered-none, answered-some, asked-alone, asked-stands}
use Rattle.vms_phase_checks.proofs.checks.PhaseCheck.work.Goals as goal

pub go-requires-clause-stands : goal.go-requires-clause-stands
go-requires-clause-stands g c = λ walk here.
    let s = c.requires.check.0 in
    let items = c.requires.check.1 in
    let h = c.requires.check.2 in
    let checks = c.requires.check.4 in
    let legal = c.requires.check.5 in
    let found = c.in-Some.ensures in
    let slot = c.in-Some.slot in
    let lane-is : c.lane_for-lane.result ≡ lane_in c.args.header.now.layout.cpus slot = c.lane_for-lane.ensures
    ∙ ap lane_for (c.owner_at.ensures ∙ ap (λ n. owner_of n slot) c.cpus.ensures.value) in
    let at = in-slot g.W.LaneWalk.Stands g.W.LaneWalk.pressure g.W.LaneWalk.normal c.args.header.now s items h
    c.args.self.now checks c.args.caller slot found.0 found.1 found.2 in
    let acts-is = c.at-acts.ensures ∙ checks.acts slot at.slot_in in (
      s,
      c.args.caller,
      h,
      asked-alone g.W.LaneWalk.Stands g.W.LaneWalk.pressure g.W.LaneWalk.normal g.met.W.LaneWalk.others c.args.header.now s
          items h c.args.self.now checks c.args.caller slot c.args.step.now at legal c.lane_for-lane.result
          c.at-acts.result.now lane-is acts-is,
      checks.shows,
      asked-stands g.W.LaneWalk.Stands g.W.LaneWalk.pressure g.W.LaneWalk.normal g.met.W.LaneWalk.others c.args.header.now s
          items h c.args.self.now checks c.args.caller slot c.args.step.now at legal c.lane_for-lane.result
          c.at-acts.result.now lane-is acts-is walk here,
    )

pub returns-then-not-go : goal.returns-then-not-go
returns-then-not-go g c s items h fits checks legal =
    let found = c.in-Some.ensures in
    let slot = c.in-Some.slot in
    let lane-is : c.lane_for-lane.result ≡ lane_in c.args.header.now.layout.cpus slot = c.lane_for-lane.ensures
    ∙ ap lane_for (c.owner_at.ensures ∙ ap (λ n. owner_of n slot) c.cpus.ensures.value) in
    let at = in-slot g.W.LaneWalk.Stands g.W.LaneWalk.pressure g.W.LaneWalk.normal c.args.header.now s items h
    c.args.self.now checks c.args.caller slot found.0 found.1 found.2 in
    let acts-is = c.at-acts.ensures ∙ checks.acts slot at.slot_in in
    let alone = asked-alone g.W.LaneWalk.Stands g.W.LaneWalk.pressure g.W.LaneWalk.normal g.met.W.LaneWalk.others
    c.args.header.now s items h c.args.self.now checks c.args.caller slot c.args.step.now at legal
    c.lane_for-lane.result c.at-acts.result.now lane-is acts-is in
    let stood = walk-in g.W.LaneWalk.Stands g.W.LaneWalk.pressure g.W.LaneWalk.normal c.args.header.now s items h
    c.args.self.now checks c.args.caller slot at in
    let stands = asked-stands g.W.LaneWalk.Stands g.W.LaneWalk.pressure g.W.LaneWalk.normal g.met.W.LaneWalk.others
    c.args.header.now s items h c.args.self.now checks c.args.caller slot c.args.step.now at legal
    c.lane_for-lane.result c.at-acts.result.now lane-is acts-is stood.0 stood.1 in (
      ap (λ walks. record c.args.self.now { walks = walks }) (c.go.ensures.same c.if-not-go.true),
      refl,
      answered-none g.W.LaneWalk.Stands g.W.LaneWalk.pressure g.W.LaneWalk.normal g.met.W.LaneWalk.others c.args.header.now s
          items h c.args.self.now checks c.args.caller slot c.args.step.now at legal c.lane_for-lane.result
          c.at-acts.result.now lane-is acts-is
          (MatchBool-at_false _ _ c.if-not-go.true
          (c.go.ensures.goes stood.0 s c.args.caller h stood.1 alone checks.shows stands)),
    )

pub returns : goal.returns
returns g c s items h fits checks legal =
    let found = c.in-Some.ensures in
    let slot = c.in-Some.slot in
    let lane-is : c.lane_for-lane.result ≡ lane_in c.args.header.now.layout.cpus slot = c.lane_for-lane.ensures
    ∙ ap lane_for (c.owner_at.ensures ∙ ap (λ n. owner_of n slot) c.cpus.ensures.value) in
    let at = in-slot g.W.LaneWalk.Stands g.W.LaneWalk.pressure g.W.LaneWalk.normal c.args.header.now s items h
    c.args.self.now checks c.args.caller slot found.0 found.1 found.2 in
    let acts-is = c.at-acts.ensures ∙ checks.acts slot at.slot_in in
    let alone = asked-alone g.W.LaneWalk.Stands g.W.LaneWalk.pressure g.W.LaneWalk.normal g.met.W.LaneWalk.others
    c.args.header.now s items h c.args.self.now checks c.args.caller slot c.args.step.now at legal
    c.lane_for-lane.result c.at-acts.result.now lane-is acts-is in
    let stood = walk-in g.W.LaneWalk.Stands g.W.LaneWalk.pressure g.W.LaneWalk.normal c.args.header.now s items h
    c.args.self.now checks c.args.caller slot at in
    let stands = asked-stands g.W.LaneWalk.Stands g.W.LaneWalk.pressure g.W.LaneWalk.normal g.met.W.LaneWalk.others
    c.args.header.now s items h c.args.self.now checks c.args.caller slot c.args.step.now at legal
    c.lane_for-lane.result c.at-acts.result.now lane-is acts-is stood.0 stood.1 in
    let went = MatchBool-at_true _ _ c.if-not-go.false
    (c.go.ensures.goes stood.0 s c.args.caller h stood.1 alone checks.shows stands) in
    let shows = shown-next c.args.self.now.facts c.args.header.now s checks.facts c.in-Some.pass c.args.caller found.3
    c.args.step.now c.args.self.now.registers c.take.new.self c.take.ensures h checks.shows legal
    (omega (arith, checks.counted, c.requires.few)) in
    answered-some g.W.LaneWalk.Stands g.W.LaneWalk.pressure g.W.LaneWalk.normal g.met.W.LaneWalk.others c.args.header.now s
    items h c.args.self.now checks c.args.caller slot c.args.step.now at legal c.lane_for-lane.result
    c.at-acts.result.now lane-is acts-is c.take.new.self shows went.0 went.1 c.go.new.self went.2
