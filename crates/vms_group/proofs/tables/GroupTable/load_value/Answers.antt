-- The goal was that the value may be loaded.
use Rattle.std.proofs.Common.{pos, sym, subst}
use Rattle.vms_group_core.specs.declared.steps.GroupFacts.{GroupFacts}
use Rattle.vms_group_core.specs.declared.steps.GroupStep.TheVariants.{LoadV}
use Rattle.vms_group_core.specs.Common.{groups, IsGroup}
use Rattle.vms_group.specs.SharedWords.{shown}
use Rattle.vms_group.specs.Common.{told}
use Rattle.vms_group.proofs.StepWords.{value-load}
use Rattle.vms_group.proofs.tables.GroupTable.load_value.Goals as goal
use Rattle.vms_seats.specs.Common.{MayStep}

pub load_at-requires-clause-step : goal.load_at-requires-clause-step
load_at-requires-clause-step c =
    let g = c.args.group in
    let facts = sym c.requires.table.facts in
    subst (λ at. MayStep groups shown c.args.worker.now at (λ n. n) (told (LoadV g (pos 0))))
    (sym c.value_place.ensures.place)
    (value-load c.args.worker.now g (subst (λ (f : GroupFacts). IsGroup f.tree g) facts c.requires.group))
