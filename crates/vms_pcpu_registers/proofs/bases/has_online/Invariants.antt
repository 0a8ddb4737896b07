use Rattle.std.proofs.Common.{◌≡◌, ℕ, ◌<◌}
use Rattle.vms_history.specs.Common.{Online}
use Rattle.vms_pcpu_core.specs.Common.{cpu_at}
use Rattle.vms_pcpu_registers.proofs.bases.has_online.Given as goal

abbrev pub invariant-loop-c : goal.invariant-loop-c
invariant-loop-c l = (d : ℕ) → d < l.c → cpu_at l.facts d ≡ Online → ⊥
