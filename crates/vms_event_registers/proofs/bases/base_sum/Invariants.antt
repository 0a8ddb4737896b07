use Rattle.std.proofs.Common.{◌≡◌, ◌≤◌, ◌*◌, ◌^◌, pos}
use Rattle.vms_history.specs.Common.{sum_below}
use Rattle.vms_event_core.specs.Common.{word_at}
use Rattle.vms_event_registers.proofs.bases.base_sum.Given as goal

abbrev pub invariant-loop-number : goal.invariant-loop-number
invariant-loop-number l = record {
  value : pos l.sum ≡ sum_below (λ c. pos (word_at l.facts.base c l.k.number)) l.number;
  bound : l.sum ≤ l.number * 2 ^ 64;
}
