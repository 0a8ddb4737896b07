use Rattle.std.proofs.Common.{ℕ, ◌<◌, pos, ◌≤ℤ◌}
use Rattle.vms_event_core.specs.Common.{most_in_base, sum_of_words}
use Rattle.vms_event_registers.proofs.bases.sums_fit.Given as goal

abbrev pub invariant-loop-number : goal.invariant-loop-number
invariant-loop-number l = (k : ℕ) → k < l.number → sum_of_words l.facts.layout l.facts.base k ≤ℤ pos most_in_base
