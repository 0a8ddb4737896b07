-- The goal was that the amount may be added.
use Rattle.std.proofs.Common.{◌≡◌, ℕ, ℤ, ◌+◌, ◌%◌, ◌^◌, w64, to_z, of_z, ap, sym, ◌∙◌, subst, Contains}
use Rattle.std.proofs.lemmas.Int.{to_z-of_z}
use Rattle.vms_history.specs.Common.{word_of, own}
use Rattle.vms_group_core.specs.declared.steps.GroupFacts.{GroupFacts}
use Rattle.vms_group_core.specs.declared.steps.GroupStep.TheVariants.{AddU}
use Rattle.vms_group_core.specs.Common.{groups, IsGroup, carried_up}
use Rattle.vms_group.specs.SharedWords.{shown}
use Rattle.vms_group.specs.Common.{told, up_place}
use Rattle.vms_group.proofs.StepWords.{up-add}
use Rattle.vms_group.proofs.tables.GroupTable.add_up.Goals as goal
use Rattle.vms_seats.specs.Common.{MayStep}

pub add_at-requires-clause-step : goal.add_at-requires-clause-step
add_at-requires-clause-step c =
    let g = c.args.group in
    let pass = c.args.worker.now in
    let facts = sym c.requires.table.facts in
    let amount : ℤ = c.args.amount in
    let same : to_z w64 (of_z w64 amount) ≡ amount = to_z-of_z w64 amount c.ranges.amount in
    let place : ℕ = up_place pass.facts.tree g in
    subst
    (λ a. MayStep groups shown pass c.up_place.result (λ n. (n + c.encode.result) % 2 ^ 64) (told (AddU g a)))
    (sym same)
    (subst (λ at. MayStep groups shown pass at (λ n. (n + c.encode.result) % 2 ^ 64) (told (AddU g amount)))
    (sym (c.up_place.ensures.place ∙ ap (λ (f : GroupFacts). up_place f.tree g) facts))
    (subst (λ word. MayStep groups shown pass place (λ n. (n + word) % 2 ^ 64) (told (AddU g amount)))
    (sym (c.encode.ensures ∙ ap word_of same))
    (up-add pass g (subst (λ (f : GroupFacts). IsGroup f.tree g) facts c.requires.group) amount
    (subst (λ (f : GroupFacts). Contains (carried_up f.tree g (own pass.seen pass.number)) amount) facts
    c.requires.carries) c.requires.some)))
