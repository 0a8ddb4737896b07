-- One line more.
use Rattle.std.proofs.Common.{Global, Vec, ap, ◌∙◌}
use Rattle.vms_world.specs.Common.{Act, owner_of as owner_of_lane}
use Rattle.vms_registers.specs.Slots.{slot_of}
use Rattle.vms_phase_checks.proofs.ActLists.{AreLaneActs-step}
use Rattle.vms_phase_checks.proofs.lane_acts.LaneActs.of.Goals as goal

pub loop-item-preserved : goal.loop-item-preserved
loop-item-preserved c =
    AreLaneActs-step (λ (lane : Vec Act Global). lane.items) c.args.cpus c.args.items.now c.loop-item.item-index
    c.item-item.result _ c.loop-item-test.true c.item-item.is c.requires.slots c.loop-item.lanes.items
    c.index_mut.result.now c.push.new.self c.slot_for-slot.result
    (c.slot_for-slot.ensures ∙ ap (slot_of c.args.cpus) (c.owner_for.ensures ∙ ap owner_of_lane c.lane.ensures))
    c.index_mut.ensures.value c.in_ok-push.ensures.items c.loop-item.invariant
