-- The sum over the CPUs so far.
use Rattle.std.proofs.Common.{◌≡◌, ◌+◌, ◌*◌, ◌≤◌, ◌^◌, ◌+ℤ◌, unsigned_abs}
use Rattle.vms_world.specs.Common.{sum_below, count_at, local_at}
use Rattle.vms_report.proofs.all_cpus.counter_total.Given as goal

-- the shared part and the local parts of the CPUs so far
abbrev pub invariant-loop-number : goal.invariant-loop-number
invariant-loop-number l = record {
  total : l.total ≡ count_at l.counters l.counter +ℤ sum_below (λ c. local_at l.counters c l.counter) l.number;
  bound : unsigned_abs l.total ≤ 2 ^ 60 + l.number * 2 ^ 16;
}
