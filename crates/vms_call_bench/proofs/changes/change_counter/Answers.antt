-- The goal was that each thread has a CPU of the machine.
use Rattle.std.proofs.Common.{arith, rules}
use Rattle.vms_bench_base.proofs.Common.{cpus-few}
use Rattle.vms_call_bench.proofs.changes.change_counter.Goals as goal

pub start-requires-clause-cpus : goal.start-requires-clause-cpus
start-requires-clause-cpus g c =
    cpus-few c.args.distance c.args.threads _ (search rules) (search rules)
