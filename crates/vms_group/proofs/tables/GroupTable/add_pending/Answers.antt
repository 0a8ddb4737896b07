-- The goals were that the own CPU is one of the tree, and that the amount may be added.
use Rattle.std.proofs.Common.{◌≡◌, ℕ, ℤ, ◌+◌, ◌%◌, ◌^◌, w64, to_z, of_z, ap, sym, ◌∙◌, subst}
use Rattle.std.proofs.lemmas.Int.{to_z-of_z}
use Rattle.vms_history.specs.Common.{word_of}
use Rattle.vms_group_core.specs.declared.steps.GroupFacts.{GroupFacts}
use Rattle.vms_group_core.specs.declared.steps.GroupStep.TheVariants.{AddP}
use Rattle.vms_group_core.specs.Common.{groups, IsGroup, IsTreeCpu}
use Rattle.vms_group_core.proofs.Common.{owner_known}
use Rattle.vms_group.specs.SharedWords.{shown}
use Rattle.vms_group.specs.Common.{told, pending_place}
use Rattle.vms_group.proofs.StepWords.{pending-add}
use Rattle.vms_group.proofs.tables.GroupTable.add_pending.Goals as goal
use Rattle.vms_seats.specs.Common.{MayStep}

pub pending_place-requires-clause-cpu : goal.pending_place-requires-clause-cpu
pending_place-requires-clause-cpu c =
    let pass = c.args.worker.now in
    subst (λ (f : GroupFacts). IsTreeCpu f.tree c.args.cpu.number) c.requires.table.facts
    (owner_known pass.facts pass.seen pass.number c.is_live.ensures.legal c.args.cpu c.requires.owns)

pub add_at-requires-clause-step : goal.add_at-requires-clause-step
add_at-requires-clause-step c =
    let g = c.args.group in
    let cpu = c.args.cpu in
    let pass = c.args.worker.now in
    let facts = sym c.requires.table.facts in
    let amount : ℤ = c.args.amount in
    let same : to_z w64 (of_z w64 amount) ≡ amount = to_z-of_z w64 amount c.ranges.amount in
    let place : ℕ = pending_place pass.facts.tree cpu.number g in
    subst
    (λ a. MayStep groups shown pass c.pending_place.result (λ n. (n + c.encode.result) % 2 ^ 64) (told (AddP g a)))
    (sym same)
    (subst (λ at. MayStep groups shown pass at (λ n. (n + c.encode.result) % 2 ^ 64) (told (AddP g amount)))
    (sym (c.pending_place.ensures.place ∙ ap (λ (f : GroupFacts). pending_place f.tree cpu.number g) facts))
    (subst (λ word. MayStep groups shown pass place (λ n. (n + word) % 2 ^ 64) (told (AddP g amount)))
    (sym (c.encode.ensures ∙ ap word_of same))
    (pending-add pass g (subst (λ (f : GroupFacts). IsGroup f.tree g) facts c.requires.group) cpu amount
    c.requires.owns c.requires.affordable)))
