-- The goal was that the load may be made.
use Rattle.std.proofs.Common.{pos, sym, subst, arith}
use Rattle.vms_pcpu_core.specs.declared.steps.PcpuFacts.{PcpuFacts}
use Rattle.vms_pcpu_core.specs.declared.steps.PcpuStep.TheVariants.{LoadC}
use Rattle.vms_pcpu_core.specs.Common.{percpu, IsPcpu, most_number}
use Rattle.vms_pcpu.specs.SharedWords.{shown}
use Rattle.vms_pcpu.specs.Common.{told}
use Rattle.vms_pcpu.proofs.StepWords.{count-load}
use Rattle.vms_pcpu.proofs.tables.PcpuTable.load_count.Goals as goal
use Rattle.vms_seats.specs.Common.{MayStep}
use Rattle.vms_history.specs.Common.{signed_of_word}
use Rattle.vms_pcpu.proofs.SmallNumbers.{count-small, passed-small}

pub load_at-requires-clause-step : goal.load_at-requires-clause-step
load_at-requires-clause-step c =
    let j = c.args.counter in
    subst (λ at. MayStep percpu shown c.args.worker.now at (λ n. n) (told (LoadC j (pos 0))))
    (sym c.count_place.ensures.place)
    (count-load c.args.worker.now j
    (subst (λ (f : PcpuFacts). IsPcpu f j.number) (sym c.requires.table.facts) c.requires.counter))

pub returns-clause-bound : goal.returns-clause-bound
returns-clause-bound c =
    let v = signed_of_word c.load_at.result in
    let small = count-small c.load_at.new.self c.args.worker.now c.args.counter v c.load_at.ensures in
    passed-small c.decode.result v most_number c.decode.ensures.value small (omega arith)
