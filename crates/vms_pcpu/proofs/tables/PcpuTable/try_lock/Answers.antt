-- The goal was that the lock may be tried.
use Rattle.std.proofs.Common.{◌==◌, if◌then◌else◌, sym, subst}
use Rattle.vms_pcpu_core.specs.declared.steps.PcpuFacts.{PcpuFacts}
use Rattle.vms_pcpu_core.specs.declared.steps.PcpuStep.TheVariants.{Won}
use Rattle.vms_pcpu_core.specs.Common.{percpu, IsPcpu}
use Rattle.vms_pcpu.specs.SharedWords.{shown}
use Rattle.vms_pcpu.specs.Common.{told}
use Rattle.vms_pcpu.proofs.StepWords.{lock-try}
use Rattle.vms_pcpu.proofs.tables.PcpuTable.try_lock.Goals as goal
use Rattle.vms_seats.specs.Common.{MayStep}

pub exchange_at-requires-clause-step : goal.exchange_at-requires-clause-step
exchange_at-requires-clause-step c =
    let j = c.args.counter in
    let facts = sym c.requires.table.facts in
    subst
    (λ at. MayStep percpu shown c.args.worker.now at (λ n. if n == 0 then 1 else n) (told (Won j)))
    (sym c.lock_place.ensures.place)
    (lock-try c.args.worker.now j (subst (λ (f : PcpuFacts). IsPcpu f j.number) facts c.requires.counter))
