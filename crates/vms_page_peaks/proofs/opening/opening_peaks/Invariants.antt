use Rattle.std.proofs.Common.{◌≡◌, ◌<◌, ℕ, [], length}
use Rattle.vms_history.specs.Common.{IsZone}
use Rattle.vms_cells.specs.Cells.{HasCells, at}
use Rattle.vms_core.specs.Common.{peak}
use Rattle.vms_page_peaks.proofs.opening.opening_peaks.Given as goal

abbrev pub invariant-loop-number : goal.invariant-loop-number
invariant-loop-number l = record {
  cells : HasCells l.facts.layout.cpus (length l.facts.layout.zones) l.peaks;
  each : (c g : ℕ) → c < l.number → IsZone l.facts.layout g → at l.peaks c g 0 ≡ peak l.facts c g [];
}
