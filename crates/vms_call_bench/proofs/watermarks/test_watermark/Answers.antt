-- The goal was that each thread has a CPU of the machine.
use Rattle.std.proofs.Common.{◌-◌, arith, rules}
use Rattle.vms_bench_base.proofs.Common.{cpus-known}
use Rattle.vms_call_bench.proofs.watermarks.test_watermark.Goals as goal

pub start-requires-clause-cpus : goal.start-requires-clause-cpus
start-requires-clause-cpus g c =
    cpus-known c.args.distance c.args.threads _ (c.args.threads - 1) (omega arith) (search rules)
