use Rattle.vms_bench_base.specs.Common.{IsReady}
use Rattle.vms_call_bench.proofs.changes.add_often.Given as goal

abbrev pub invariant-loop : goal.invariant-loop
invariant-loop l = IsReady l.table l.pass
