-- The CPUs so far are looked at.
use Rattle.std.proofs.Common.{◌+◌, ◌-◌, ◌*◌, ◌≤◌, ◌^◌, unsigned_abs}
use Rattle.std.specs.Prelude.{Option}
use Rattle.vms_calls.specs.Common.{CpuId}
use Rattle.vms_plans.specs.Common.{looks_plan}
use Rattle.vms_call_lines.specs.Lines.{BeginsWriting}
use Rattle.vms_call_lines.proofs.looks.write_snapshot.Given as goal

abbrev pub invariant-loop-number : goal.invariant-loop-number
invariant-loop-number l = record {
  small : unsigned_abs l.sum ≤ 2 ^ 61 + 128 * l.number;
  looks : (who : Option CpuId) → BeginsWriting who (looks_plan l.counter 0 l.layout.cpus l.initial.sum) l.pages l.caller
      l.initial.out.items l.out.items (looks_plan l.counter l.number (l.layout.cpus - l.number) l.sum) l.pages;
}
