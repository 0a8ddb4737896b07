use Rattle.std.proofs.Common.{◌≡◌, ◌+ℤ◌, ◌*◌, ◌≤◌, drop, unsigned_abs}
use Rattle.vms_history.specs.Common.{present_from}
use Rattle.vms_pcpu_core.specs.Common.{most_batch}
use Rattle.vms_plain_pcpu.specs.Common.{locals_over}
use Rattle.vms_plain_pcpu.proofs.summing.locals.Given as goal

-- what is summed, and what is left to sum
abbrev pub invariant-loop-number : goal.invariant-loop-number
invariant-loop-number l = record {
  sum : l.sum +ℤ locals_over l.counters l.counter.number (present_from l.number (drop l.number l.states))
      ≡ locals_over l.counters l.counter.number (present_from 0 l.states);
  bound : unsigned_abs l.sum ≤ l.number * most_batch;
}
