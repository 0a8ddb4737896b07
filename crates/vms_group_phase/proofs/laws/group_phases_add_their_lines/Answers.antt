-- What stands at the end is what stood before and what the lines changed.
use Rattle.vms_group_phase.specs.Common.{group_facts}
use Rattle.vms_group_phase.proofs.NextWorlds.{lines-added}
use Rattle.vms_group_phase.proofs.laws.group_phases_add_their_lines.Goals as goal

pub returns : goal.returns
returns c tree w items h fit phase g g_in =
    lines-added tree w items h phase fit
    (c.complete_histories_hold_totals.ensures (group_facts tree w) h phase.complete) g g_in
