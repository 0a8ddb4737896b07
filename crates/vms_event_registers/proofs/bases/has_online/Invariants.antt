use Rattle.std.proofs.Common.{◌≡◌, ℕ, ◌<◌}
use Rattle.vms_history.specs.Common.{Online}
use Rattle.vms_event_core.specs.Common.{cpu_at}
use Rattle.vms_event_registers.proofs.bases.has_online.Given as goal

abbrev pub invariant-loop-number : goal.invariant-loop-number
invariant-loop-number l = (b : ℕ) → b < l.number → cpu_at l.facts b ≡ Online → ⊥
