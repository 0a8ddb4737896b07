use Rattle.std.proofs.Common.{ℕ, ◌<◌}
use Rattle.vms_pcpu_core.specs.Common.{IsLocalBase, IsPcpu}
use Rattle.vms_pcpu_registers.proofs.bases.locals_fit.Given as goal

abbrev pub invariant-loop-c : goal.invariant-loop-c
invariant-loop-c l = (d : ℕ) → d < l.c → (j : ℕ) → IsPcpu l.facts j → IsLocalBase l.facts d j
