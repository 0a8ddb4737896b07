-- The goal was that a try that wins the lock has found it held no time before.
use Rattle.std.proofs.Common.{[], ◌∷◌, if◌then◌else◌, subst}
use Rattle.vms_pcpu_core.specs.declared.steps.PcpuStep.TheVariants.{Won, Missed}
use Rattle.vms_pcpu_core.specs.Common.{won, percpu}
use Rattle.vms_pcpu.proofs.locking.TryingLocking.lock.Goals as goal
use Rattle.vms_seats.specs.Common.{MadeOne}

pub returns-then-try_lock-clause-won : goal.returns-then-try_lock-clause-won
returns-then-try_lock-clause-won c =
    let j = c.args.counter in
    let one = subst
    (λ b. MadeOne percpu c.try_lock.new.worker c.args.worker.now (if b then Won j else Missed j))
    c.if-try_lock.true c.try_lock.ensures in
    (Won j ∷ [], won, one.all)
