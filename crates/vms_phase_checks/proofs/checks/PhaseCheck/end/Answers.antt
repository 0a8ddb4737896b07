-- The pass in the slot has made all acts of its lane, or it hasn't.
use Rattle.std.proofs.Common.{◌≡◌, None, ℕ, ap, refl, sym, ◌∙◌, arith, subst}
use Rattle.vms_world.specs.Common.{Acts, Ends, Facts, facts_of, pages}
use Rattle.vms_registers.specs.Slots.{owner_of}
use Rattle.vms_phase_checks.specs.Common.{lane_for, lane_in}
use Rattle.vms_phase_checks.proofs.CheckedSlots.{has-walk, in-slot, lives-somewhere}
use Rattle.vms_phase_checks.proofs.EndsTaken.{answered-no, answered-yes, asked-alone, asked-stands}
use Rattle.vms_phase_checks.proofs.Shown.{match-none, none-is, shown-next}
use Rattle.vms_phase_checks.proofs.Tests.{false-isnt}
use Rattle.vms_phase_checks.proofs.checks.PhaseCheck.end.Goals as goal

pub returns-in_default : goal.returns-in_default
returns-in_default g c s items h fits checks legal =
    let ended = subst (Acts pages (facts_of c.args.header.now s) h 0) c.requires.ends legal.1 in
    absurd (lives-somewhere g.W.LaneWalk.Stands g.W.LaneWalk.pressure g.W.LaneWalk.normal c.args.header.now s items h
    c.args.self.now checks c.args.pass ended.1
    (match-none c.slot.result _ _ c.in_default.not-Some c.slot.ensures))

pub returns-in_default-get : goal.returns-in_default-get
returns-in_default-get g c s items h fits checks legal =
    let found = c.in-Some.ensures in
    let at = in-slot g.W.LaneWalk.Stands g.W.LaneWalk.pressure g.W.LaneWalk.normal c.args.header.now s items h
    c.args.self.now checks c.args.pass c.in-Some.slot found.0 found.1 found.2 in
    absurd (has-walk g.W.LaneWalk.Stands g.W.LaneWalk.pressure g.W.LaneWalk.normal c.args.header.now s items h
    c.args.self.now checks c.args.pass c.in-Some.slot at
    (c.get.ensures ∙ none-is c.get.result c.in_default-get.not-Some))

pub is_done-requires-clause-stands : goal.is_done-requires-clause-stands
is_done-requires-clause-stands g c =
    let s = c.requires.check.0 in
    let items = c.requires.check.1 in
    let h = c.requires.check.2 in
    let checks = c.requires.check.4 in
    let legal = c.requires.check.5 in
    let found = c.in-Some.ensures in
    let slot = c.in-Some.slot in
    let lane-is : c.lane_for-lane.result ≡ lane_in c.args.header.now.layout.cpus slot = c.lane_for-lane.ensures
    ∙ ap lane_for (c.owner_at.ensures ∙ ap (λ n. owner_of n slot) c.cpus.ensures.value) in
    let at = in-slot g.W.LaneWalk.Stands g.W.LaneWalk.pressure g.W.LaneWalk.normal c.args.header.now s items h
    c.args.self.now checks c.args.pass slot found.0 found.1 found.2 in
    let acts-is = c.at.ensures ∙ checks.acts slot at.slot_in in (
      s,
      c.args.pass,
      h,
      asked-alone g.W.LaneWalk.Stands g.W.LaneWalk.pressure g.W.LaneWalk.normal g.met.W.LaneWalk.others g.met.W.LaneWalk.by_own
          c.args.header.now s items h c.args.self.now checks c.args.pass slot c.args.step.now at c.requires.ends legal
          c.lane_for-lane.result c.at.result.now lane-is acts-is,
      checks.shows,
      asked-stands g.W.LaneWalk.Stands g.W.LaneWalk.pressure g.W.LaneWalk.normal g.met.W.LaneWalk.others g.met.W.LaneWalk.by_own
          c.args.header.now s items h c.args.self.now checks c.args.pass slot c.args.step.now at c.requires.ends legal
          c.lane_for-lane.result c.at.result.now lane-is acts-is c.in-Some-get.walk
          (c.get.ensures ∙ c.in-Some-get.is),
    )

pub returns-then-not-is_done : goal.returns-then-not-is_done
returns-then-not-is_done g c s items h fits checks legal =
    let found = c.in-Some.ensures in
    let slot = c.in-Some.slot in
    let lane-is : c.lane_for-lane.result ≡ lane_in c.args.header.now.layout.cpus slot = c.lane_for-lane.ensures
    ∙ ap lane_for (c.owner_at.ensures ∙ ap (λ n. owner_of n slot) c.cpus.ensures.value) in
    let at = in-slot g.W.LaneWalk.Stands g.W.LaneWalk.pressure g.W.LaneWalk.normal c.args.header.now s items h
    c.args.self.now checks c.args.pass slot found.0 found.1 found.2 in
    let acts-is = c.at.ensures ∙ checks.acts slot at.slot_in in
    let alone = asked-alone g.W.LaneWalk.Stands g.W.LaneWalk.pressure g.W.LaneWalk.normal g.met.W.LaneWalk.others
    g.met.W.LaneWalk.by_own c.args.header.now s items h c.args.self.now checks c.args.pass slot c.args.step.now at
    c.requires.ends legal c.lane_for-lane.result c.at.result.now lane-is acts-is in
    let stands = asked-stands g.W.LaneWalk.Stands g.W.LaneWalk.pressure g.W.LaneWalk.normal g.met.W.LaneWalk.others
    g.met.W.LaneWalk.by_own c.args.header.now s items h c.args.self.now checks c.args.pass slot c.args.step.now at
    c.requires.ends legal c.lane_for-lane.result c.at.result.now lane-is acts-is c.in-Some-get.walk
    (c.get.ensures ∙ c.in-Some-get.is) in
    let done = c.is_done.ensures s c.args.pass h alone checks.shows stands in (
      refl,
      refl,
      answered-no g.W.LaneWalk.Stands g.W.LaneWalk.pressure g.W.LaneWalk.normal g.met.W.LaneWalk.others g.met.W.LaneWalk.by_own
          c.args.header.now s items h c.args.self.now checks c.args.pass slot c.args.step.now at c.requires.ends legal
          c.lane_for-lane.result c.at.result.now lane-is acts-is (λ made. false-isnt c.is_done.result c.if-not-is_done.true (done.1 made)),
    )

pub returns : goal.returns
returns g c s items h fits checks legal =
    let found = c.in-Some.ensures in
    let slot = c.in-Some.slot in
    let lane-is : c.lane_for-lane.result ≡ lane_in c.args.header.now.layout.cpus slot = c.lane_for-lane.ensures
    ∙ ap lane_for (c.owner_at.ensures ∙ ap (λ n. owner_of n slot) c.cpus.ensures.value) in
    let at = in-slot g.W.LaneWalk.Stands g.W.LaneWalk.pressure g.W.LaneWalk.normal c.args.header.now s items h
    c.args.self.now checks c.args.pass slot found.0 found.1 found.2 in
    let acts-is = c.at.ensures ∙ checks.acts slot at.slot_in in
    let alone = asked-alone g.W.LaneWalk.Stands g.W.LaneWalk.pressure g.W.LaneWalk.normal g.met.W.LaneWalk.others
    g.met.W.LaneWalk.by_own c.args.header.now s items h c.args.self.now checks c.args.pass slot c.args.step.now at
    c.requires.ends legal c.lane_for-lane.result c.at.result.now lane-is acts-is in
    let stands = asked-stands g.W.LaneWalk.Stands g.W.LaneWalk.pressure g.W.LaneWalk.normal g.met.W.LaneWalk.others
    g.met.W.LaneWalk.by_own c.args.header.now s items h c.args.self.now checks c.args.pass slot c.args.step.now at
    c.requires.ends legal c.lane_for-lane.result c.at.result.now lane-is acts-is c.in-Some-get.walk
    (c.get.ensures ∙ c.in-Some-get.is) in
    let done = c.is_done.ensures s c.args.pass h alone checks.shows stands in
    let shows = shown-next c.args.self.now.facts c.args.header.now s checks.facts 0 0 refl c.args.step.now
    c.args.self.now.registers c.take.new.self c.take.ensures h checks.shows legal
    (omega (arith, checks.counted, c.requires.few)) in
    answered-yes g.W.LaneWalk.Stands g.W.LaneWalk.pressure g.W.LaneWalk.normal g.met.W.LaneWalk.others g.met.W.LaneWalk.by_own
    c.args.header.now s items h c.args.self.now checks c.args.pass slot c.args.step.now at c.requires.ends legal
    c.lane_for-lane.result c.at.result.now lane-is acts-is (done.0 c.if-not-is_done.false) c.take.new.self shows
