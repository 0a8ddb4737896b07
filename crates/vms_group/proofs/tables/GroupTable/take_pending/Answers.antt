-- The goal was that the word may be taken.
use Rattle.std.proofs.Common.{pos, ap, sym, ◌∙◌, subst}
use Rattle.vms_group_core.specs.declared.steps.GroupFacts.{GroupFacts}
use Rattle.vms_group_core.specs.declared.steps.GroupStep.TheVariants.{TakeP}
use Rattle.vms_group_core.specs.Common.{groups, IsGroup, IsTreeCpu}
use Rattle.vms_group.specs.SharedWords.{shown}
use Rattle.vms_group.specs.Common.{told, pending_place}
use Rattle.vms_group.proofs.StepWords.{pending-take}
use Rattle.vms_group.proofs.tables.GroupTable.take_pending.Goals as goal
use Rattle.vms_seats.specs.Common.{MayStep}

pub swap_at-requires-clause-step : goal.swap_at-requires-clause-step
swap_at-requires-clause-step c =
    let g = c.args.group in
    let cpu = c.args.cpu in
    let facts = sym c.requires.table.facts in
    subst (λ at. MayStep groups shown c.args.worker.now at (λ n. 0) (told (TakeP cpu g (pos 0))))
    (sym (c.pending_place.ensures.place ∙ ap (λ (f : GroupFacts). pending_place f.tree cpu.number g) facts))
    (pending-take c.args.worker.now g (subst (λ (f : GroupFacts). IsGroup f.tree g) facts c.requires.group) cpu
    (subst (λ (f : GroupFacts). IsTreeCpu f.tree cpu.number) facts c.requires.cpu))
