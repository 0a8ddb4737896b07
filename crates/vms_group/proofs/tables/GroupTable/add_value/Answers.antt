-- The goal was that the amount may be added.
use Rattle.std.proofs.Common.{◌≡◌, ℤ, ◌+◌, ◌%◌, ◌^◌, w64, to_z, of_z, ap, sym, ◌∙◌, subst}
use Rattle.std.proofs.lemmas.Int.{to_z-of_z}
use Rattle.vms_history.specs.Common.{word_of}
use Rattle.vms_group_core.specs.declared.steps.GroupFacts.{GroupFacts}
use Rattle.vms_group_core.specs.declared.steps.GroupStep.TheVariants.{AddV}
use Rattle.vms_group_core.specs.Common.{groups, IsGroup}
use Rattle.vms_group.specs.SharedWords.{shown}
use Rattle.vms_group.specs.Common.{told}
use Rattle.vms_group.proofs.StepWords.{value-add}
use Rattle.vms_group.proofs.tables.GroupTable.add_value.Goals as goal
use Rattle.vms_seats.specs.Common.{MayStep}

pub add_at-requires-clause-step : goal.add_at-requires-clause-step
add_at-requires-clause-step c =
    let g = c.args.group in
    let pass = c.args.worker.now in
    let facts = sym c.requires.table.facts in
    let amount : ℤ = c.args.amount in
    let same : to_z w64 (of_z w64 amount) ≡ amount = to_z-of_z w64 amount c.ranges.amount in
    subst
    (λ a. MayStep groups shown pass c.value_place.result (λ n. (n + c.encode.result) % 2 ^ 64) (told (AddV g a)))
    (sym same)
    (subst (λ at. MayStep groups shown pass at (λ n. (n + c.encode.result) % 2 ^ 64) (told (AddV g amount)))
    (sym c.value_place.ensures.place)
    (subst (λ word. MayStep groups shown pass g (λ n. (n + word) % 2 ^ 64) (told (AddV g amount)))
    (sym (c.encode.ensures ∙ ap word_of same))
    (value-add pass g (subst (λ (f : GroupFacts). IsGroup f.tree g) facts c.requires.group) amount
    c.requires.carries c.requires.some)))
