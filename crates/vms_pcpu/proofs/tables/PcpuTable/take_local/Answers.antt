-- The goal was that the local part may be taken.
use Rattle.std.proofs.Common.{pos, ap, sym, ◌∙◌, subst, arith}
use Rattle.vms_history.specs.Common.{IsCpu, signed_of_word}
use Rattle.vms_pcpu_core.specs.declared.steps.PcpuFacts.{PcpuFacts}
use Rattle.vms_pcpu_core.specs.declared.steps.PcpuStep.TheVariants.{TakeL}
use Rattle.vms_pcpu_core.specs.Common.{percpu, IsPcpu, counters_of, most_batch}
use Rattle.vms_pcpu.specs.SharedWords.{shown}
use Rattle.vms_pcpu.specs.Common.{told, local_place}
use Rattle.vms_pcpu.proofs.StepWords.{local-take}
use Rattle.vms_pcpu.proofs.tables.PcpuTable.take_local.Goals as goal
use Rattle.vms_seats.specs.Common.{MayStep}
use Rattle.vms_pcpu.proofs.SmallNumbers.{take-small, passed-small}

pub swap_at-requires-clause-step : goal.swap_at-requires-clause-step
swap_at-requires-clause-step c =
    let j = c.args.counter in
    let cpu = c.args.cpu in
    let facts = sym c.requires.table.facts in
    subst (λ at. MayStep percpu shown c.args.worker.now at (λ n. 0) (told (TakeL j cpu (pos 0))))
    (sym (c.local_place.ensures.place
    ∙ ap (λ (f : PcpuFacts). local_place (counters_of f.base) cpu.number j.number) facts))
    (local-take c.args.worker.now j
    (subst (λ (f : PcpuFacts). IsPcpu f j.number) facts c.requires.counter) cpu
    (subst (λ (f : PcpuFacts). IsCpu f.layout cpu.number) facts c.requires.cpu) c.requires.may)

pub returns-clause-bound : goal.returns-clause-bound
returns-clause-bound c =
    let v = signed_of_word c.swap_at.result in
    let small = take-small c.swap_at.new.self c.args.worker.now c.args.counter v c.args.cpu c.swap_at.ensures in
    passed-small c.decode.result v most_batch c.decode.ensures.value small (omega arith)
