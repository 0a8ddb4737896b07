use Rattle.std.proofs.Common.{ℕ, ◌<◌}
use Rattle.vms_pcpu_core.specs.Common.{IsLocalBase}
use Rattle.vms_pcpu_registers.proofs.bases.row_fits.Given as goal

abbrev pub invariant-loop-j : goal.invariant-loop-j
invariant-loop-j l = (k : ℕ) → k < l.j → IsLocalBase l.facts l.c k
