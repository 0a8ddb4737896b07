-- Each moment is a beginning of the history.
use Rattle.std.proofs.Common.{subst}
use Rattle.vms_group_core.specs.Common.{IsLegal}
use Rattle.vms_group_phase.specs.Common.{group_facts}
use Rattle.vms_group_phase.proofs.laws.group_phases_keep_laws.Goals as goal

pub returns : goal.returns
returns c tree w items h moment phase extends =
    c.laws_are_kept.ensures (group_facts tree w) extends.0 moment
    (subst (IsLegal (group_facts tree w)) extends.1 phase.complete.legal)
