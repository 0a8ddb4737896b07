-- The first pass of a lane with lines begins.
use Rattle.std.proofs.Common.{None, ◌≤◌, refl, ap, ◌∙◌, arith, subst, sym}
use Rattle.vms_registers.specs.Slots.{owner_of, slot_of}
use Rattle.vms_registers.proofs.HeldPasses.{owner_of-slot_of, slot_of-within}
use Rattle.vms_written_states.proofs.LinedLanes.{lane-of_acts}
use Rattle.vms_phase_checks.specs.Common.{lane_for, lane_in}
use Rattle.vms_phase_checks.proofs.BeginsTaken.{Checks-begun_with, cpus-owned, known-owner, lane-of_owner, no-lines}
use Rattle.vms_phase_checks.proofs.BeginsTaken.{second-pass}
use Rattle.vms_phase_checks.proofs.Shown.{shown-next}
use Rattle.vms_phase_checks.proofs.Tests.{empty-is, given, missing, some-is}
use Rattle.vms_phase_checks.proofs.checks.PhaseCheck.begin.Goals as goal

pub returns-then-is_empty : goal.returns-then-is_empty
returns-then-is_empty g c s items h fits checks legal =
    let header = c.args.header.now in
    let within = cpus-owned header s h c.requires.begins.0 c.args.who c.args.step.now c.requires.begins.1 legal in
    let slot-is = c.slot_for-slot.ensures ∙ ap (λ n. slot_of n c.args.who) c.cpus.ensures.value in
    let owner-is = ap (owner_of header.layout.cpus) slot-is ∙ owner_of-slot_of header.layout.cpus c.args.who within in
    let slot_in = subst (λ n. n ≤ header.layout.cpus) (sym slot-is)
    (slot_of-within header.layout.cpus c.args.who within) in (
      refl,
      refl,
      no-lines g.W.LaneWalk.Stands g.W.LaneWalk.pressure g.W.LaneWalk.normal g.met.W.LaneWalk.others header s items h
          c.args.self.now checks c.requires.begins.0 c.args.who c.slot_for-slot.result c.args.step.now c.requires.begins.1
          slot_in owner-is legal
          (sym (lane-of_owner header items c.slot_for-slot.result c.args.who owner-is)
          ∙ sym (c.at.ensures ∙ checks.acts c.slot_for-slot.result slot_in)
          ∙ empty-is c.at.result.now c.is_empty.result c.is_empty.ensures c.if-is_empty.true),
    )

pub returns-then-is_some : goal.returns-then-is_some
returns-then-is_some g c s items h fits checks legal =
    let header = c.args.header.now in
    let within = cpus-owned header s h c.requires.begins.0 c.args.who c.args.step.now c.requires.begins.1 legal in
    let slot-is = c.slot_for-slot.ensures ∙ ap (λ n. slot_of n c.args.who) c.cpus.ensures.value in
    let owner-is = ap (owner_of header.layout.cpus) slot-is ∙ owner_of-slot_of header.layout.cpus c.args.who within in
    let slot_in = subst (λ n. n ≤ header.layout.cpus) (sym slot-is)
    (slot_of-within header.layout.cpus c.args.who within) in (
      refl,
      refl,
      second-pass g.W.LaneWalk.Stands g.W.LaneWalk.pressure g.W.LaneWalk.normal g.met.W.LaneWalk.others header s items h
          c.args.self.now checks c.requires.begins.0 c.args.who c.slot_for-slot.result c.args.step.now c.requires.begins.1
          slot_in owner-is legal
          (λ none. given c.get.result c.is_some.result c.is_some.ensures c.if-is_some.true (sym (c.get.ensures) ∙ none)),
    )

pub returns : goal.returns
returns g c s items h fits checks legal =
    let header = c.args.header.now in
    let within = cpus-owned header s h c.requires.begins.0 c.args.who c.args.step.now c.requires.begins.1 legal in
    let slot-is = c.slot_for-slot.ensures ∙ ap (λ n. slot_of n c.args.who) c.cpus.ensures.value in
    let owner-is = ap (owner_of header.layout.cpus) slot-is ∙ owner_of-slot_of header.layout.cpus c.args.who within in
    let slot_in = subst (λ n. n ≤ header.layout.cpus) (sym slot-is)
    (slot_of-within header.layout.cpus c.args.who within) in
    let lane-is = lane-of_owner header items c.slot_for-slot.result c.args.who owner-is in
    let acts-is = c.at.ensures ∙ checks.acts c.slot_for-slot.result slot_in in
    let shows = shown-next c.args.self.now.facts header s checks.facts 0 0 refl c.args.step.now
    c.args.self.now.registers c.take.new.self c.take.ensures h checks.shows legal
    (omega (arith, checks.counted, c.requires.few)) in
    Checks-begun_with g.W.LaneWalk.Stands g.W.LaneWalk.pressure g.W.LaneWalk.normal g.met.W.LaneWalk.others header s items h
    c.args.self.now checks c.requires.begins.0 c.args.who c.slot_for-slot.result c.args.step.now c.requires.begins.1
    slot_in owner-is legal
    (lane-of_acts header items (lane_for c.args.who) (known-owner header c.args.who within)
    (λ none. some-is c.at.result.now c.is_empty.result c.is_empty.ensures c.if-is_empty.false
    (acts-is ∙ lane-is ∙ none)))
    (c.get.ensures ∙ missing c.get.result c.is_some.result c.is_some.ensures c.if-is_some.false)
    c.take.new.self shows c.begin.result
    (λ p none. c.begin.ensures header s (lane_in header.layout.cpus c.slot_for-slot.result) p _ _ none)
    c.set.new.self c.set.ensures
