use Rattle.std.proofs.Common.{ℕ, ◌<◌}
use Rattle.vms_pcpu_core.specs.Common.{IsCounterBase}
use Rattle.vms_pcpu_registers.proofs.bases.counters_fit.Given as goal

abbrev pub invariant-loop-j : goal.invariant-loop-j
invariant-loop-j l = (k : ℕ) → k < l.j → IsCounterBase l.facts k
