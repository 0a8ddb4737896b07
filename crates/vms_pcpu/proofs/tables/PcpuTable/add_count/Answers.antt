-- The goal was that the addition may be made.
use Rattle.std.proofs.Common.{◌≡◌, ℤ, ◌+◌, ◌%◌, ◌^◌, w64, to_z, of_z, ap, sym, ◌∙◌, subst}
use Rattle.std.proofs.lemmas.Int.{to_z-of_z}
use Rattle.vms_history.specs.Common.{word_of}
use Rattle.vms_pcpu_core.specs.declared.steps.PcpuFacts.{PcpuFacts}
use Rattle.vms_pcpu_core.specs.declared.steps.PcpuStep.TheVariants.{AddC}
use Rattle.vms_pcpu_core.specs.Common.{percpu, IsPcpu}
use Rattle.vms_pcpu.specs.SharedWords.{shown}
use Rattle.vms_pcpu.specs.Common.{count_place, told}
use Rattle.vms_pcpu.proofs.StepWords.{count-add}
use Rattle.vms_pcpu.proofs.tables.PcpuTable.add_count.Goals as goal
use Rattle.vms_seats.specs.Common.{MayStep}

pub add_at-requires-clause-step : goal.add_at-requires-clause-step
add_at-requires-clause-step c =
    let j = c.args.counter in
    let pass = c.args.worker.now in
    let amount : ℤ = c.args.amount in
    let same : to_z w64 (of_z w64 amount) ≡ amount = to_z-of_z w64 amount c.ranges.amount in
    subst
    (λ a. MayStep percpu shown pass c.count_place.result (λ n. (n + c.encode.result) % 2 ^ 64) (told (AddC j a)))
    (sym same)
    (subst (λ at. MayStep percpu shown pass at (λ n. (n + c.encode.result) % 2 ^ 64) (told (AddC j amount)))
    (sym c.count_place.ensures.place)
    (subst (λ word. MayStep percpu shown pass (count_place j.number) (λ n. (n + word) % 2 ^ 64) (told (AddC j amount)))
    (sym (c.encode.ensures ∙ ap word_of same))
    (count-add pass j (subst (λ (f : PcpuFacts). IsPcpu f j.number) (sym c.requires.table.facts) c.requires.counter)
    amount c.requires.may)))
