-- The goal was that the lock may be given back.
use Rattle.std.proofs.Common.{sym, subst}
use Rattle.vms_pcpu_core.specs.declared.steps.PcpuFacts.{PcpuFacts}
use Rattle.vms_pcpu_core.specs.declared.steps.PcpuStep.TheVariants.{Unlock}
use Rattle.vms_pcpu_core.specs.Common.{percpu, IsPcpu}
use Rattle.vms_pcpu.specs.SharedWords.{shown}
use Rattle.vms_pcpu.specs.Common.{told}
use Rattle.vms_pcpu.proofs.StepWords.{lock-release}
use Rattle.vms_pcpu.proofs.tables.PcpuTable.unlock.Goals as goal
use Rattle.vms_seats.specs.Common.{MayStep}

pub swap_at-requires-clause-step : goal.swap_at-requires-clause-step
swap_at-requires-clause-step c =
    let j = c.args.counter in
    let facts = sym c.requires.table.facts in
    subst (λ at. MayStep percpu shown c.args.worker.now at (λ n. 0) (told (Unlock j)))
    (sym c.lock_place.ensures.place)
    (lock-release c.args.worker.now j (subst (λ (f : PcpuFacts). IsPcpu f j.number) facts c.requires.counter)
    c.requires.may)
