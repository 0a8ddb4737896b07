use Rattle.std.proofs.Common.{◌<◌, ℕ, []}
use Rattle.vms_core.specs.Cells as cells
use Rattle.vms_history.specs.Common.{Covers, size_at}
use Rattle.vms_core.specs.Common.{peak_sum}
use Rattle.vms_page_registers.proofs.covering.is_covered.Given as goal

abbrev pub invariant-loop-number : goal.invariant-loop-number
invariant-loop-number l = (g : ℕ) → g < l.number
    → Covers (size_at l.facts.sizes g) (cells.mark_at l.facts.base g) (peak_sum l.facts g [])
