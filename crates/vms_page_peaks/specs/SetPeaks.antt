-- What a peak that is set makes of the sum of its zone.
use Rattle.std.specs.Prelude.{◌≡◌, ◌≢◌, ◌+◌, ℕ, length, slice_index_or}
use Rattle.vms_history.specs.Common.{CpuState}
use Rattle.vms_cells.specs.Cells.{at, with_cell}
use Rattle.vms_core.specs.Common.{if_present}
use Rattle.vms_page_peaks.specs.declared.peaks.PagePeaks.{PagePeaks}

-- one peak is set, and the sum of its zone follows where the CPU is online or dead
pub record SetsPeak (x : CpuState) (c g v : ℕ) (r next : PagePeaks) : Type 0 where
  pub spent : next.spent ≡ r.spent
  pub peaks : next.peaks ≡ with_cell r.peaks c g v
  pub zones : length next.sums ≡ length r.sums
  pub sum : slice_index_or next.sums g 0 + if_present x (at r.peaks c g 0) ≡ slice_index_or r.sums g 0 + if_present x v
  pub other_sums : (f : ℕ) → f ≢ g → slice_index_or next.sums f 0 ≡ slice_index_or r.sums f 0
