use Rattle.std.proofs.Common.{◌≡◌, ◌<◌, ℕ}
use Rattle.vms_core.specs.Cells as cells
use Rattle.vms_history.specs.Common.{Online}
use Rattle.vms_page_registers.proofs.bases.some_cpu_is_online.Given as goal

abbrev pub invariant-loop-number : goal.invariant-loop-number
invariant-loop-number l = (c : ℕ) → c < l.number → cells.cpu_at l.state c ≡ Online → ⊥
