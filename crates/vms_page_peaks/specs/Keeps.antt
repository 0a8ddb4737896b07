-- What the peaks keep of a history of the page counters.
use Rattle.std.specs.Prelude.{◌≡◌, ℕ, length, slice_index_or}
use Rattle.vms_history.specs.Common.{IsCounter, IsCpu, IsZone, counter_count}
use Rattle.vms_cells.specs.Cells.{HasCells, at}
use Rattle.vms_core.specs.declared.steps.Facts.{Facts}
use Rattle.vms_core.specs.declared.steps.Step.{Step}
use Rattle.vms_core.specs.declared.steps.Step.TheVariants.{LoadA}
use Rattle.vms_core.specs.Common.{History, cpu_in, peak, peak_sum, sets, spent, threshold_in}
use Rattle.vms_page_peaks.specs.declared.peaks.PagePeaks.{PagePeaks}
use Rattle.vms_page_peaks.specs.declared.peaks.Newest.{Newest}

-- what each CPU has spent of each counter and may hide of each zone, and what all CPUs may hide of a zone together
pub record KeepsPeaks (facts : Facts) (h : History) (r : PagePeaks) : Type 0 where
  pub spent_cells : HasCells facts.layout.cpus (counter_count facts.layout) r.spent
  pub spends : (c k : ℕ) → IsCpu facts.layout c → IsCounter facts.layout k → at r.spent c k 0 ≡ spent h c k
  pub peak_cells : HasCells facts.layout.cpus (length facts.layout.zones) r.peaks
  pub peaks : (c g : ℕ) → IsCpu facts.layout c → IsZone facts.layout g → at r.peaks c g 0 ≡ peak facts c g h
  pub one_sum_each : length r.sums ≡ length facts.layout.zones
  pub sums : (g : ℕ) → IsZone facts.layout g → slice_index_or r.sums g 0 ≡ peak_sum facts g h

-- what stands of a CPU and a zone after a history
pub record IsNewest (facts : Facts) (h : History) (c g : ℕ) (newest : Newest) : Type 0 where
  pub cpu : newest.cpu ≡ cpu_in facts c h
  pub threshold : newest.t ≡ threshold_in facts c g h
  pub number : newest.number ≡ sets c g h

-- beside a load of an acknowledgement stands what its CPU and its zone have; beside another step, anything
abbrev pub TellsNewest : Facts → History → Step → Newest → Type 0
TellsNewest facts h (LoadA c g x) newest = IsNewest facts h c.number g.number newest
TellsNewest facts h _ newest = Unit {0}
