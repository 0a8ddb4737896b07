-- The goals were that the lock may be given back, and that the steps are those of a sum.
use Rattle.std.proofs.Common.{arith}
use Rattle.vms_pcpu.proofs.SmallNumbers.{same_sum}
use Rattle.vms_pcpu.proofs.SumSteps.{sum_unlock-may, sum-made}
use Rattle.vms_pcpu.proofs.tables.PcpuTable.sum_by.Goals as goal

pub unlock-requires-clause-may : goal.unlock-requires-clause-may
unlock-requires-clause-may g c =
    sum_unlock-may c.args.worker.now c.args.counter c.requires.calls c.args.self.now.facts c.requires.table.facts
    c.requires.counter c.lock.new.worker c.in_ok-lock.ensures.won.0 c.in_ok-lock.ensures.won.1
    c.in_ok-lock.ensures.won.2
    c.load_count-count.new.worker c.load_count-count.result c.load_count-count.ensures.made c.load_locals.new.worker
    c.load_locals.ensures.made.0 c.load_locals.result c.load_locals.ensures.made.1 c.load_locals.ensures.made.2

pub returns-clause-made : goal.returns-clause-made
returns-clause-made g c =
    let small = c.load_count-count.ensures.bound in
    let few = c.load_locals.ensures.bound in
    sum-made c.args.worker.now c.args.counter c.requires.calls c.args.self.now.facts c.requires.table.facts
    c.requires.counter c.lock.new.worker c.in_ok-lock.ensures.won.0 c.in_ok-lock.ensures.won.1
    c.in_ok-lock.ensures.won.2
    c.load_count-count.new.worker c.load_count-count.result c.load_count-count.ensures.made c.load_locals.new.worker
    c.load_locals.ensures.made.0 c.load_locals.result c.load_locals.ensures.made.1 c.load_locals.ensures.made.2
    c.unlock.new.worker _ c.unlock.ensures
    (same_sum c.load_count-count.result c.load_locals.result (omega (arith, small)) (omega (arith, few)))
