use Rattle.std.proofs.Common.{◌≡◌, ℕ, ◌<◌}
use Rattle.vms_event_core.specs.Common.{word_at}
use Rattle.vms_event_registers.proofs.bases.has_no_count.Given as goal

abbrev pub invariant-loop-number : goal.invariant-loop-number
invariant-loop-number l = (k : ℕ) → k < l.number → word_at l.facts.base l.c.number k ≡ 0
