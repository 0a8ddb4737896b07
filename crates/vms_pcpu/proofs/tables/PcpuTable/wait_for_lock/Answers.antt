-- The goals were that a try that misses the lock leaves missed tries alone, and that one that wins it ends them.
use Rattle.std.proofs.Common.{if◌then◌else◌, subst}
use Rattle.vms_pcpu_core.specs.declared.steps.PcpuStep.TheVariants.{Won, Missed}
use Rattle.vms_pcpu_core.specs.Common.{percpu}
use Rattle.vms_pcpu.proofs.LockTries.{tried-missed, tried-won}
use Rattle.vms_pcpu.proofs.tables.PcpuTable.wait_for_lock.Goals as goal
use Rattle.vms_seats.specs.Common.{MadeOne}

pub returns-then-try_lock : goal.returns-then-try_lock
returns-then-try_lock g c =
    let j = c.args.counter in
    tried-won j c.try_lock.new.worker c.loop.worker c.args.worker.now c.loop.invariant.2
    (subst (λ won. MadeOne percpu c.try_lock.new.worker c.loop.worker (if won then Won j else Missed j))
    c.if-try_lock.true c.try_lock.ensures)

pub loop-preserved : goal.loop-preserved
loop-preserved g c =
    let j = c.args.counter in (
      tt,
      tt,
      tried-missed j c.try_lock.new.worker c.loop.worker c.args.worker.now c.loop.invariant.2
          (subst (λ won. MadeOne percpu c.try_lock.new.worker c.loop.worker (if won then Won j else Missed j))
          c.if-try_lock.false c.try_lock.ensures),
    )
