use Rattle.std.proofs.Common.{ℕ, ◌<◌, ◌≤◌}
use Rattle.vms_group_registers.specs.Rises.{IsRise, rise_at}
use Rattle.vms_group_registers.proofs.rises.Rises.find.Given as goal

abbrev pub invariant-loop-at : goal.invariant-loop-at
invariant-loop-at l = record {
  within : l.at ≤ l.self.count;
  none : (i : ℕ) → l.at ≤ i → i < l.self.count → ¬ IsRise l.slot l.group l.amount (rise_at l.self i);
}

abbrev pub decreases-loop-at : goal.decreases-loop-at
decreases-loop-at l = l.at
