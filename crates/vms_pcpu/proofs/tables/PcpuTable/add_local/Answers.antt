-- The goal was that the addition may be made.
use Rattle.std.proofs.Common.{◌≡◌, ℕ, ℤ, ◌+◌, ◌%◌, ◌^◌, w64, to_z, of_z, ap, sym, ◌∙◌, subst}
use Rattle.std.proofs.lemmas.Int.{to_z-of_z}
use Rattle.vms_history.specs.Common.{word_of, IsCpu}
use Rattle.vms_pcpu_core.specs.declared.steps.PcpuFacts.{PcpuFacts}
use Rattle.vms_pcpu_core.specs.declared.steps.PcpuStep.TheVariants.{AddL}
use Rattle.vms_pcpu_core.specs.Common.{percpu, IsPcpu, counters_of}
use Rattle.vms_pcpu.specs.SharedWords.{shown}
use Rattle.vms_pcpu.specs.Common.{told, local_place}
use Rattle.vms_pcpu.proofs.StepWords.{local-add}
use Rattle.vms_pcpu.proofs.tables.PcpuTable.add_local.Goals as goal
use Rattle.vms_seats.specs.Common.{MayStep}

pub add_at-requires-clause-step : goal.add_at-requires-clause-step
add_at-requires-clause-step c =
    let j = c.args.counter in
    let own = c.args.own in
    let pass = c.args.worker.now in
    let facts = sym c.requires.table.facts in
    let amount : ℤ = c.args.amount in
    let same : to_z w64 (of_z w64 amount) ≡ amount = to_z-of_z w64 amount c.ranges.amount in
    let place : ℕ = local_place (counters_of pass.facts.base) own.number j.number in
    subst
    (λ a. MayStep percpu shown pass c.local_place.result (λ n. (n + c.encode.result) % 2 ^ 64) (told (AddL j a)))
    (sym same)
    (subst (λ at. MayStep percpu shown pass at (λ n. (n + c.encode.result) % 2 ^ 64) (told (AddL j amount)))
    (sym (c.local_place.ensures.place
    ∙ ap (λ (f : PcpuFacts). local_place (counters_of f.base) own.number j.number) facts))
    (subst (λ word. MayStep percpu shown pass place (λ n. (n + word) % 2 ^ 64) (told (AddL j amount)))
    (sym (c.encode.ensures ∙ ap word_of same))
    (local-add pass j (subst (λ (f : PcpuFacts). IsPcpu f j.number) facts c.requires.counter) own
    (subst (λ (f : PcpuFacts). IsCpu f.layout own.number) facts c.requires.own) c.requires.owns amount
    c.requires.may)))
