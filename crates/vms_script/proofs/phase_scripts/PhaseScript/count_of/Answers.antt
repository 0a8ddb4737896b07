-- how many lines of a lane were counted is how many its script has
use Rattle.std.proofs.Common.{List, length, sym, ap, ◌∙◌}
use Rattle.vms_text.specs.declared.acts.Item.{Item}
use Rattle.vms_script.specs.Common.{lane_items}
use Rattle.vms_script.proofs.LaneItems.{length-lane_items}
use Rattle.vms_script.proofs.phase_scripts.PhaseScript.count_of.Goals as goal

pub returns : goal.returns
returns c =
    c.lane_count.ensures ∙ sym (length-lane_items c.args.lane c.as_slice.result.now)
    ∙ ap (λ (items : List Item). length (lane_items c.args.lane items)) (c.as_slice.ensures.value ∙ c.self.view_is)
