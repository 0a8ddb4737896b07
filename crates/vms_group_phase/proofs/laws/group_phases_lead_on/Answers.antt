-- The first world, and the one that a phase leaves.
use Rattle.vms_group_phase.specs.Common.{group_facts, group_volume_in}
use Rattle.vms_group_phase.proofs.NextWorlds.{first-world, next-world, stays-within}
use Rattle.vms_group_phase.proofs.laws.group_phases_lead_on.Goals as goal

pub returns-clause-first : goal.returns-clause-first
returns-clause-first c tree is =
    first-world tree (c.zeros_are_a_base.ensures.base tree is) (c.zeros_are_a_base.ensures.paid tree is)

pub returns-clause-next : goal.returns-clause-next
returns-clause-next c tree w items h world fit phase =
    let both = c.complete_histories_leave_bases.ensures.within_volumes (group_facts tree w) h
    (group_volume_in w.volumes tree) phase.complete world.paid (stays-within tree w items h phase fit) in
    next-world tree w items h phase fit both.0 both.1
