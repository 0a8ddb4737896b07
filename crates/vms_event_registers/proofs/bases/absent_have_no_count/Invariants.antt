use Rattle.std.proofs.Common.{◌≡◌, ℕ, ◌<◌}
use Rattle.vms_history.specs.Common.{Absent}
use Rattle.vms_event_core.specs.Common.{cpu_at, IsEvent, word_at}
use Rattle.vms_event_registers.proofs.bases.absent_have_no_count.Given as goal

abbrev pub invariant-loop-number : goal.invariant-loop-number
invariant-loop-number l =
    (c : ℕ) → c < l.number → cpu_at l.facts c ≡ Absent → (k : ℕ) → IsEvent k → word_at l.facts.base c k ≡ 0
