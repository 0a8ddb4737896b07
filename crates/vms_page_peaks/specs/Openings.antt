-- The peaks at the beginning of a history.
use Rattle.std.specs.Prelude.{◌≡◌, ℕ, [], length}
use Rattle.vms_history.specs.Common.{IsCpu, IsZone}
use Rattle.vms_cells.specs.Cells.{Cells, HasCells, at}
use Rattle.vms_core.specs.declared.steps.Facts.{Facts}
use Rattle.vms_core.specs.Common.{peak}

-- there is a cell for each CPU and zone, in which the peak of a history without events stands
pub record AreOpening (facts : Facts) (peaks : Cells ℕ) : Type 0 where
  pub cells : HasCells facts.layout.cpus (length facts.layout.zones) peaks
  pub each : (c g : ℕ) → IsCpu facts.layout c → IsZone facts.layout g → at peaks c g 0 ≡ peak facts c g []
