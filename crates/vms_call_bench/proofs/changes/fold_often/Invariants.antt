use Rattle.vms_calls.specs.Common.{IsCpu}
use Rattle.vms_bench_base.specs.Common.{IsReady}
use Rattle.vms_call_bench.proofs.changes.fold_often.Given as goal

abbrev pub invariant-loop : goal.invariant-loop
invariant-loop l = IsReady l.table l.pass × IsCpu l.table.facts.layout l.cpu.number
