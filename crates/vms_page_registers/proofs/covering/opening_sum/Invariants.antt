use Rattle.std.proofs.Common.{◌≡◌, ◌≤◌, ◌*◌, ◌^◌, []}
use Rattle.vms_core.specs.Common.{if_present, cpu_in, peak}
use Rattle.vms_history.specs.Common.{count_below}
use Rattle.vms_page_registers.proofs.covering.opening_sum.Given as goal

abbrev pub invariant-loop-number : goal.invariant-loop-number
invariant-loop-number l = record {
  value : l.sum ≡ count_below (λ c. if_present (cpu_in l.facts c []) (peak l.facts c l.zone.number [])) l.number;
  bound : l.sum ≤ 2 ^ 64 * l.number;
}
