use Rattle.std.proofs.Common.{◌≡◌, ◌≢◌, ◌<◌, ℕ, [], length}
use Rattle.vms_history.specs.Common.{IsZone}
use Rattle.vms_cells.specs.Cells.{HasCells, at}
use Rattle.vms_core.specs.Common.{peak}
use Rattle.vms_page_peaks.proofs.opening.open_cpu.Given as goal

abbrev pub invariant-loop-number : goal.invariant-loop-number
invariant-loop-number l = record {
  cells : HasCells l.facts.layout.cpus (length l.facts.layout.zones) l.peaks;
  here : (g : ℕ) → g < l.number → at l.peaks l.cpu.number g 0 ≡ peak l.facts l.cpu.number g [];
  others : (c g : ℕ) → IsZone l.facts.layout g → c ≢ l.cpu.number → at l.peaks c g 0 ≡ at l.fn.peaks c g 0;
}
