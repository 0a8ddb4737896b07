-- The lane of a line more has a line.
use Rattle.std.proofs.Common.{ℕ, ap, ◌∙◌}
use Rattle.vms_phase_lines.specs.Common.{slot_of}
use Rattle.vms_phase_lines.proofs.LinedLanes.{ShowsLined-step}
use Rattle.vms_phase_lines.proofs.lanes.lined.Goals as goal

pub loop-item-preserved : goal.loop-item-preserved
loop-item-preserved c =
    ShowsLined-step c.args.header.now c.args.items.now c.requires.items c.loop-item.item-index c.item-item.result _
    c.loop-item-test.true c.item-item.is c.loop-item.lined c.loop-item.invariant c.slot_of.result
    (c.slot_of.ensures ∙ ap (λ (n : ℕ). slot_of n c.lane.result) c.cpus-cpus.ensures.value
    ∙ ap (slot_of c.args.header.now.layout.cpus) c.lane.ensures) c.set.new.self c.set.ensures
