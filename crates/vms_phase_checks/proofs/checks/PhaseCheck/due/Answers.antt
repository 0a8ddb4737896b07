-- What the walk of the lane names.
use Rattle.std.proofs.Common.{◌≡◌, ap, ◌∙◌}
use Rattle.vms_registers.specs.Slots.{owner_of}
use Rattle.vms_phase_checks.specs.Common.{lane_for, lane_in}
use Rattle.vms_phase_checks.proofs.CheckedSlots.{has-walk, in-slot, lives-somewhere}
use Rattle.vms_phase_checks.proofs.DueSteps.{answered, asked-alone, asked-stands, lives-in_slot}
use Rattle.vms_phase_checks.proofs.Shown.{match-none, none-is}
use Rattle.vms_phase_checks.proofs.checks.PhaseCheck.due.Goals as goal

pub returns-in_default : goal.returns-in_default
returns-in_default g c s items h fits checks = λ lives.
    absurd (lives-somewhere g.W.LaneWalk.Stands g.W.LaneWalk.pressure g.W.LaneWalk.normal c.args.header.now s items h
    c.args.self.now checks c.args.caller lives (match-none c.slot.result _ _ c.in_default.not-Some c.slot.ensures))

pub returns-in_default-get : goal.returns-in_default-get
returns-in_default-get g c s items h fits checks = λ lives.
    let found = c.in-Some.ensures in
    let at = in-slot g.W.LaneWalk.Stands g.W.LaneWalk.pressure g.W.LaneWalk.normal c.args.header.now s items h
    c.args.self.now checks c.args.caller c.in-Some.slot found.0 found.1 found.2 in
    absurd (has-walk g.W.LaneWalk.Stands g.W.LaneWalk.pressure g.W.LaneWalk.normal c.args.header.now s items h
    c.args.self.now checks c.args.caller c.in-Some.slot at
    (c.get.ensures ∙ none-is c.get.result c.in_default-get.not-Some))

pub due-requires-clause-stands : goal.due-requires-clause-stands
due-requires-clause-stands g c =
    let s = c.requires.check.0 in
    let items = c.requires.check.1 in
    let h = c.requires.check.2 in
    let checks = c.requires.check.4 in
    let found = c.in-Some.ensures in
    let slot = c.in-Some.slot in
    let lane-is : c.lane_for-lane.result ≡ lane_in c.args.header.now.layout.cpus slot = c.lane_for-lane.ensures
    ∙ ap lane_for (c.owner_at.ensures ∙ ap (λ n. owner_of n slot) c.cpus.ensures.value) in
    let at = in-slot g.W.LaneWalk.Stands g.W.LaneWalk.pressure g.W.LaneWalk.normal c.args.header.now s items h
    c.args.self.now checks c.args.caller slot found.0 found.1 found.2 in
    let acts-is = c.at.ensures ∙ checks.acts slot at.slot_in in (
      s,
      c.args.caller,
      h,
      asked-alone g.W.LaneWalk.Stands g.W.LaneWalk.pressure g.W.LaneWalk.normal c.args.header.now s items h
          c.args.self.now checks c.args.caller slot at c.lane_for-lane.result c.at.result.now lane-is acts-is,
      checks.shows,
      asked-stands g.W.LaneWalk.Stands g.W.LaneWalk.pressure g.W.LaneWalk.normal c.args.header.now s items h
          c.args.self.now checks c.args.caller slot at c.lane_for-lane.result c.at.result.now lane-is acts-is
          c.in-Some-get.walk (c.get.ensures ∙ c.in-Some-get.is),
    )

pub returns : goal.returns
returns g c s items h fits checks =
    let found = c.in-Some.ensures in
    let slot = c.in-Some.slot in
    let lane-is : c.lane_for-lane.result ≡ lane_in c.args.header.now.layout.cpus slot = c.lane_for-lane.ensures
    ∙ ap lane_for (c.owner_at.ensures ∙ ap (λ n. owner_of n slot) c.cpus.ensures.value) in
    let at = in-slot g.W.LaneWalk.Stands g.W.LaneWalk.pressure g.W.LaneWalk.normal c.args.header.now s items h
    c.args.self.now checks c.args.caller slot found.0 found.1 found.2 in
    let acts-is = c.at.ensures ∙ checks.acts slot at.slot_in in
    let alone = asked-alone g.W.LaneWalk.Stands g.W.LaneWalk.pressure g.W.LaneWalk.normal c.args.header.now s items h
    c.args.self.now checks c.args.caller slot at c.lane_for-lane.result c.at.result.now lane-is acts-is in
    let stands = asked-stands g.W.LaneWalk.Stands g.W.LaneWalk.pressure g.W.LaneWalk.normal c.args.header.now s items h
    c.args.self.now checks c.args.caller slot at c.lane_for-lane.result c.at.result.now lane-is acts-is
    c.in-Some-get.walk (c.get.ensures ∙ c.in-Some-get.is) in
    answered g.W.LaneWalk.Stands g.W.LaneWalk.pressure g.W.LaneWalk.normal c.args.header.now s items h c.args.self.now
    checks c.args.caller slot at c.lane_for-lane.result c.at.result.now lane-is acts-is c.due.result
    (lives-in_slot g.W.LaneWalk.Stands g.W.LaneWalk.pressure g.W.LaneWalk.normal c.args.header.now s items h
    c.args.self.now checks c.args.caller slot found.0 found.1)
    (c.due.ensures s c.args.caller h alone checks.shows stands)
