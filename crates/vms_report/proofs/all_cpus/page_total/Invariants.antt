-- The sum over the CPUs so far.
use Rattle.std.proofs.Common.{◌≡◌, ◌+◌, ◌*◌, ◌≤◌, ◌^◌, ◌+ℤ◌, unsigned_abs}
use Rattle.vms_world.specs.Common.{sum_below, value_at, diff_at}
use Rattle.vms_report.proofs.all_cpus.page_total.Given as goal

-- the global value and the differentials of the CPUs so far
abbrev pub invariant-loop-number : goal.invariant-loop-number
invariant-loop-number l = record {
  total : l.total ≡ value_at l.pages l.counter.number +ℤ sum_below (λ c. diff_at l.pages c l.counter.number) l.number;
  bound : unsigned_abs l.total ≤ 2 ^ 60 + l.number * 2 ^ 16;
}
