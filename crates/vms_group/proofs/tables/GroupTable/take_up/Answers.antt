-- The goal was that the word may be taken.
use Rattle.std.proofs.Common.{pos, ap, sym, ◌∙◌, subst}
use Rattle.vms_group_core.specs.declared.steps.GroupFacts.{GroupFacts}
use Rattle.vms_group_core.specs.declared.steps.GroupStep.TheVariants.{TakeU}
use Rattle.vms_group_core.specs.Common.{groups, IsGroup}
use Rattle.vms_group.specs.SharedWords.{shown}
use Rattle.vms_group.specs.Common.{told, up_place}
use Rattle.vms_group.proofs.StepWords.{up-take}
use Rattle.vms_group.proofs.tables.GroupTable.take_up.Goals as goal
use Rattle.vms_seats.specs.Common.{MayStep}

pub swap_at-requires-clause-step : goal.swap_at-requires-clause-step
swap_at-requires-clause-step c =
    let g = c.args.group in
    let facts = sym c.requires.table.facts in
    subst (λ at. MayStep groups shown c.args.worker.now at (λ n. 0) (told (TakeU g (pos 0))))
    (sym (c.up_place.ensures.place ∙ ap (λ (f : GroupFacts). up_place f.tree g) facts))
    (up-take c.args.worker.now g (subst (λ (f : GroupFacts). IsGroup f.tree g) facts c.requires.group))
